-- Users and groups, with the groups that documents give them.
use Rattle.std.proofs.Common.{◌≡◌, ◌∙◌, ◌↔◌, ◌++◌, [], ◌∷◌, List, Contains, Less, ap, ap₂, append-nil, get_or, inl, inr, map, refl, subst, sym}
use Rattle.std.specs.Cmp.Lexicographic.{slice_cmp}
use Rattle.std.proofs.lemmas.List.Elements.{Contains-append_cases, Contains-append_left, Contains-append_right}
use Rattle.rbac_terms.specs.Text.{Text, text_cmp}
use Rattle.rbac_terms.specs.Principals.{Who, AsMember, AsUser, who_key}
use Rattle.rbac_model.specs.Lists.{by_name, IsAscendingBy}
use Rattle.rbac_model.specs.Unions.{who_texts}
use Rattle.rbac_universe.proofs.Flattened.{contains_map, map_contains, pairs_map}
use Rattle.rbac_groups.specs.Memberships.{users_listed, with_memberships}
use Rattle.rbac_groups.specs.declared.membership.Membership.{Membership}
use Rattle.rbac_groups.proofs.Unchanged.{all_unchanged, unchanged}
use Rattle.rbac_model.specs.Policies.{PolicyView}
use Rattle.rbac_paths.specs.Paths.{ArePathsOf, PathView}
use Rattle.rbac_steps.specs.declared.steps.Step.{Step}

-- documents give a principal no other key
pub key_kept : (ms : List Membership) (who : Who) → who_key (with_memberships ms who) ≡ who_key who
key_kept ms (AsUser name given) = refl
key_kept ms (AsMember group) = refl

-- so they leave the order of keys as it is
pub given_in_order : (ms : List Membership) (each : List Who) → IsAscendingBy who_texts each → IsAscendingBy who_texts (map (with_memberships ms) each)
given_in_order ms each up =
    let name : (w : Who) → who_texts (with_memberships ms w) ≡ who_texts w = λ w. ap (λ (k : Text). k ∷ []) (key_kept ms w) in
    pairs_map (λ a b. by_name who_texts a b ≡ Less) (with_memberships ms) each
    (λ i j d lt l. ap₂ (λ (m n : List Text). slice_cmp text_cmp m n) (name (get_or each i d)) (name (get_or each j d)) ∙ up i j d lt l)

-- lists of the same principals, with the same groups given
pub given_alike : (ms : List Membership) (each named : List Who) → ((who : Who) → Contains each who ↔ Contains named who)
    → (who : Who) → Contains (map (with_memberships ms) each) who ↔ Contains (map (with_memberships ms) named) who
given_alike ms each named same who = (
  λ c. (let (w, here, is) = contains_map (with_memberships ms) each who c in
      subst (Contains (map (with_memberships ms) named)) is (map_contains (with_memberships ms) named w ((same w).0 here))),
  λ c. (let (w, here, is) = contains_map (with_memberships ms) named who c in
      subst (Contains (map (with_memberships ms) each)) is (map_contains (with_memberships ms) each w ((same w).1 here))),
)

-- the same with other principals behind both
pub also_alike : (all principals listed : List Who) → ((who : Who) → Contains all who ↔ Contains principals who) → (who : Who) → Contains (all ++ listed) who ↔ Contains (principals ++ listed) who
also_alike all principals listed same who = (
  λ c. elim (Contains-append_cases all listed who c) [
    | inl a ↦ Contains-append_left principals listed who ((same who).0 a)
    | inr b ↦ Contains-append_right principals listed who b
  ],
  λ c. elim (Contains-append_cases principals listed who c) [
    | inl a ↦ Contains-append_left all listed who ((same who).1 a)
    | inr b ↦ Contains-append_right all listed who b
  ],
)

-- without documents, those who have the groups already have the same paths
pub paths_alike : (ms : List Membership) (principals : List Who) (p : PolicyView) (steps : List Step) (who : Who) (xs : List PathView) → let named = map (with_memberships ms) (principals ++ users_listed ms) in
    ArePathsOf p named steps (with_memberships ms who) xs ↔ ArePathsOf p (map (with_memberships []) (named ++ users_listed [])) steps (with_memberships [] (with_memberships ms who)) xs
paths_alike ms principals p steps who xs =
    let named = map (with_memberships ms) (principals ++ users_listed ms) in
    let same : map (with_memberships []) (named ++ users_listed []) ≡ named = ap (map (with_memberships [])) (append-nil named) ∙ all_unchanged named in
    let given = unchanged (with_memberships ms who) in (
      λ are. subst (λ (ps : List Who). ArePathsOf p ps steps (with_memberships [] (with_memberships ms who)) xs) (sym same)
          (subst (λ (w : Who). ArePathsOf p named steps w xs) (sym given) are),
      λ are. subst (λ (w : Who). ArePathsOf p named steps w xs) given
          (subst (λ (ps : List Who). ArePathsOf p ps steps (with_memberships [] (with_memberships ms who)) xs) same are),
    )
