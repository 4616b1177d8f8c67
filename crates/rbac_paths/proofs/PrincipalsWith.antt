-- Users and groups with the principal asked about, one after another.
use Rattle.std.proofs.Common.{◌≡◌, ◌≢◌, ◌↔◌, ◌+◌, ◌<◌, ◌++◌, ◌∷◌, [], ◌∙◌, ℕ, AllPairs, Contains, Equal, Less, List, ap, ap₂, arith, get_or, inl, inr, length, map, subst, sym, take}
use Rattle.std.proofs.lemmas.List.{get_or-take, get_or_default, length-take, map_push}
use Rattle.std.proofs.lemmas.List.Elements.{Contains-append_cases, Contains-append_left, Contains-append_right}
use Rattle.std.proofs.lemmas.List.Quantifiers.{all_pairs_push}
use Rattle.rbac_terms.specs.Text.{Text}
use Rattle.rbac_terms.specs.Principals.{Who, who_key}
use Rattle.rbac_model.proofs.NamePlaces.{equal_from_name}
use Rattle.rbac_model.proofs.Stairs.{take_read}
use Rattle.rbac_model.specs.Lists.{IsAscendingBy, by_name}
use Rattle.rbac_model.specs.Unions.{who_texts}
use Rattle.rbac_paths.specs.Principals.{IsOneWith}
use Rattle.rbac_paths.proofs.Mapped.{is_element, map_contains, one_element}

-- in order of keys, an earlier user or group has another key
earlier_differs : (ps : List Who) (i : ℕ) (who other : Who) → IsAscendingBy who_texts ps → i < length ps → other ≡ get_or ps i other → Contains (take i ps) who → who_key who ≢ who_key other
earlier_differs ps i who other up within there before e =
    let low : before.0 < i = omega (arith, before.1, length-take i ps) in
    let first : get_or ps before.0 other ≡ who = get_or_default ps before.0 other who (omega (arith, low, within)) ∙ sym (get_or-take i ps before.0 who low) ∙ before.2 in
    let less : by_name who_texts who other ≡ Less = ap₂ (λ (x : Who) (y : Who). by_name who_texts x y) (sym first) there ∙ up before.0 i other low within in
    let tied : by_name who_texts who other ≡ Equal = equal_from_name who_texts who other (ap (λ (t : Text). t ∷ []) e) in
    let both : Less ≡ Equal = sym less ∙ tied in cc

module _ {R : Type 0} (f : R → Who) (asked : Who) (ps : List Who) where
  -- the users and groups so far, with the principal asked about
  pub record IsWith (passed : List Who) (xs : List R) : Type 0 where
    pub exact : (who : Who) → Contains (map f xs) who ↔ IsOneWith passed asked who
    pub apart : IsAscendingBy who_texts ps → AllPairs (λ a b. who_key (f a) ≢ who_key (f b)) xs

  pub with_none : (x : R) (xs : List R) → f x ≡ asked → xs ≡ x ∷ [] → IsWith [] xs
  with_none x xs is made = subst (λ (ys : List R). IsWith [] ys) (sym made) (record {
    exact = λ who. (
      λ c. inl (sym (one_element (f x) who c) ∙ is),
      λ one. elim one [
        | inl e ↦ is_element (f x) who (is ∙ sym e)
        | inr other ↦ absurd (omega (arith, other.0.1))
      ],
    );
    apart = λ up i j d low within. absurd (omega (arith, low, within));
  })

  module _ (i : ℕ) (who : Who) (within : i < length ps) (there : who ≡ get_or ps i who) (xs : List R) (are : IsWith (take i ps) xs) where
    -- a user or a group with the same key as the principal asked about is left out
    pub with_same : who_key who ≡ who_key asked → IsWith (take (i + 1) ps) xs
    with_same same = subst (λ (passed : List Who). IsWith passed xs) (sym (take_read ps i who within there)) (record {
      exact = λ x. (
        λ c. elim ((are.exact x).0 c) [
          | inl e ↦ inl e
          | inr other ↦ inr (Contains-append_left (take i ps) (who ∷ []) x other.0, other.1)
        ],
        λ one. elim one [
          | inl e ↦ (are.exact x).1 (inl e)
          | inr other ↦ elim (Contains-append_cases (take i ps) (who ∷ []) x other.0) [
            | inl before ↦ (are.exact x).1 (inr (before, other.1))
            | inr own ↦ absurd (other.1 (ap who_key (sym (one_element who x own)) ∙ same))
          ]
        ],
      );
      apart = are.apart;
    })

    differs : IsAscendingBy who_texts ps → who_key who ≢ who_key asked → (x : Who) → IsOneWith (take i ps) asked x → who_key x ≢ who_key who
    differs up other x (inl is) e = other (sym e ∙ ap who_key is)
    differs up other x (inr before) e = earlier_differs ps i x who up within there before.0 e

    -- a user or a group with another key is added
    pub with_more : (x : R) (ys : List R) → ys ≡ xs ++ x ∷ [] → f x ≡ who → who_key who ≢ who_key asked → IsWith (take (i + 1) ps) ys
    with_more x ys made is other = subst (λ (zs : List R). IsWith (take (i + 1) ps) zs) (sym made) (subst (λ (passed : List Who). IsWith passed (xs ++ x ∷ [])) (sym (take_read ps i who within there)) (record {
      exact = λ z. subst (λ (zs : List Who). Contains zs z ↔ IsOneWith (take i ps ++ who ∷ []) asked z) (sym (map_push f xs x)) (
        λ c. elim (Contains-append_cases (map f xs) (f x ∷ []) z c) [
          | inl old ↦ elim ((are.exact z).0 old) [
            | inl e ↦ inl e
            | inr before ↦ inr (Contains-append_left (take i ps) (who ∷ []) z before.0, before.1)
          ]
          | inr own ↦ (let same : who ≡ z = sym is ∙ one_element (f x) z own in
              inr (Contains-append_right (take i ps) (who ∷ []) z (is_element who z same), subst (λ (w : Who). who_key w ≢ who_key asked) same other))
        ],
        λ one. elim one [
          | inl e ↦ Contains-append_left (map f xs) (f x ∷ []) z ((are.exact z).1 (inl e))
          | inr new ↦ elim (Contains-append_cases (take i ps) (who ∷ []) z new.0) [
            | inl before ↦ Contains-append_left (map f xs) (f x ∷ []) z ((are.exact z).1 (inr (before, new.1)))
            | inr own ↦ Contains-append_right (map f xs) (f x ∷ []) z (is_element (f x) z (is ∙ one_element who z own))
          ]
        ],
      );
      apart = λ up. all_pairs_push (λ a b. who_key (f a) ≢ who_key (f b)) xs x (are.apart up)
          (λ k d low e. differs up other (f (get_or xs k d)) ((are.exact (f (get_or xs k d))).0 (map_contains f xs (get_or xs k d) (k, low, get_or_default xs k (get_or xs k d) d low))) (e ∙ ap who_key is));
    }))
