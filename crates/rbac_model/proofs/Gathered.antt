-- the roles at the places of a set are those that an aggregated role gathers from
use Rattle.std.proofs.Common.{◌≡◌, ℕ, ◌<◌, ◌⊎◌, ◌/◌, ◌%◌, List, [], ◌∷◌, length, get_or, Contains, All, AllPairs, ◌↔◌, inl, inr, sym, ap, ◌∙◌, refl, arith, subst, Result, Ok, Err, IfOk}
use Rattle.std.specs.Prelude.{Option, Some, None, IsSome, slice_get, Vec, option_and_then}
use Rattle.std.specs.Int.{bit_at}
use Rattle.std.proofs.lemmas.Bool.{cases_eq}
use Rattle.std.specs.List.{filter_map}
use Rattle.std.specs.declared.alloc.Global.{Global}
use Rattle.std.proofs.lemmas.List.{get_or_default}
use Rattle.std.proofs.lemmas.List.Elements.{Contains-get_or}
use Rattle.std.proofs.lemmas.Option.{same_Some, slice_get_within, get_or_from_slice_get, slice_get-get_or, slice_get_cases}
use Rattle.rbac_model.specs.Policies.{Held, IsHeld, Reaches, IsPlain, cluster_role_name}
use Rattle.rbac_model.specs.Lists.{IsAscendingBy, IsUpTo}
use Rattle.rbac_model.specs.Graphs.{Graph, HasPlace}
use Rattle.rbac_model.specs.Places.{IsReachedAt, AreReachedByEach, AreSourcesOf, AreSourcesAt, IsPlainAt}
use Rattle.rbac_terms.specs.declared.granting.ClusterRole.{ClusterRole}
use Rattle.rbac_model.proofs.Kept.{length-filter_map, slice_get-filter_map}
use Rattle.rbac_model.proofs.Stairs.{read_contains, reached_held, reached_places}
use Rattle.rbac_model.proofs.UpTo.{all_kept, some_list}
use Rattle.rbac_terms.specs.declared.selecting.Selector.{Selector}

k_itself : (ks : List ℕ) (i : ℕ) → i < length ks → get_or ks i (get_or ks i 0) ≡ get_or ks i 0
k_itself ks i l = get_or_default ks i (get_or ks i 0) 0 l

-- roles at ascending places ascend
module _ (roles : List ClusterRole) (ascending : IsAscendingBy cluster_role_name roles) (ks : List ℕ) (rising : AllPairs (λ a b. a < b) ks) (within : All (λ k. k < length roles) ks) where
  there : All (λ k. IsSome (slice_get roles k)) ks
  there i d l = elim ((slice_get_cases roles (get_or ks i d)).1) [
    | inl w ↦ rw w.2 refl
    | inr w ↦ absurd (omega (arith, within i d l, w.0))
  ]

  read_at : (i : ℕ) (d : ClusterRole) → i < length ks → get_or (filter_map (slice_get roles) ks) i d ≡ get_or roles (get_or ks i 0) d
  read_at i d l =
      get_or_from_slice_get (filter_map (slice_get roles) ks) i (get_or roles (get_or ks i 0) d) d
      (slice_get-filter_map (slice_get roles) ks i there
      ∙ ap (option_and_then (slice_get roles)) (slice_get-get_or ks i 0 l)
      ∙ slice_get-get_or roles (get_or ks i 0) d (within i 0 l))

  pub roles_ascend : IsAscendingBy cluster_role_name (filter_map (slice_get roles) ks)
  roles_ascend i j d lt l =
      let in_range : j < length ks = omega (arith, length-filter_map (slice_get roles) ks there) in
      rw (read_at i d (omega arith), read_at j d in_range) (ascending (get_or ks i 0) (get_or ks j 0) d (rising i j 0 lt in_range) (within j 0 in_range))

  pub in_roles : (s : ClusterRole) → Contains (filter_map (slice_get roles) ks) s → (k : ℕ) × Contains ks k × (slice_get roles k ≡ Some s)
  in_roles s w =
      let in_range : w.0 < length ks = omega (arith, w.1, length-filter_map (slice_get roles) ks there) in
      let k = get_or ks w.0 0 in
      (k, (w.0, in_range, k_itself ks w.0 in_range), slice_get-get_or roles k s (within w.0 0 in_range) ∙ ap Some (sym (read_at w.0 s in_range) ∙ w.2))

  pub roles_in : (k : ℕ) (s : ClusterRole) → Contains ks k → slice_get roles k ≡ Some s → Contains (filter_map (slice_get roles) ks) s
  roles_in k s w e =
      let more : length (filter_map (slice_get roles) ks) ≡ length ks = length-filter_map (slice_get roles) ks there in
      (w.0, omega (arith, w.1), read_at w.0 s w.1 ∙ ap (λ i. get_or roles i s) (get_or_default ks w.0 0 k w.1 ∙ w.2) ∙ get_or_from_slice_get roles k s s e)

pub own_source : (h : Held) (at : ℕ) (r : ClusterRole) → slice_get h.cluster_roles at ≡ Some r → IsPlain r → AreSourcesOf h r (at ∷ [])
own_source h at r e plain =
    (λ k d l. let first : k ≡ 0 = omega arith in rw first (slice_get_within h.cluster_roles at r e), inl (plain, rw e refl))

pub at_place : (h : Held) (at : ℕ) (r : ClusterRole) (ps : List ℕ) → slice_get h.cluster_roles at ≡ Some r → AreSourcesOf h r ps → AreSourcesAt h at ps
at_place h at r ps read of = λ s e. subst (λ (t : ClusterRole). AreSourcesOf h t ps) (same_Some r s (sym read ∙ e)) of

-- a place of a plain role
abbrev pub IsGatheredAt : Held → List ℕ → ℕ → Type 0
IsGatheredAt h places k = HasPlace places k × IsPlainAt h.cluster_roles k

module _ (h : Held) (held : IsHeld h) (r : ClusterRole) (aggregated : IsPlain r → ⊥) (places : List ℕ) (reached : (k : ℕ) → HasPlace places k ↔ IsReachedAt h r k) where
  pub gathered_from : (ks : List ℕ) → IsUpTo (IsGatheredAt h places) ks (length h.cluster_roles) → AreSourcesOf h r ks
  gathered_from ks up =
      let rising = up.ascending in
      let exact : (k : ℕ) → Contains ks k ↔ IsGatheredAt h places k = all_kept (IsGatheredAt h places) ks (length h.cluster_roles) (λ k p. slice_get_within h.cluster_roles k p.1.0 p.1.1) up in
      let within : All (λ k. k < length h.cluster_roles) ks = λ i d l. let p = ((exact (get_or ks i d)).0 (Contains-get_or ks i d l)).1 in slice_get_within h.cluster_roles (get_or ks i d) p.0 p.1 in (
        within,
        inr (
          aggregated,
          record {
            ordered = roles_ascend h.cluster_roles held.cluster_roles ks rising within;
            exact = λ s. (
              λ w.
                  let a = in_roles h.cluster_roles held.cluster_roles ks rising within s w in
                  let has = (exact a.0).0 a.1 in
                  let same = same_Some has.1.0 s (sym has.1.1 ∙ a.2) in
                  let to = (reached a.0).0 has.0 in
                  let same_to = same_Some to.0 s (sym to.1 ∙ a.2) in
                  (subst IsPlain same has.1.2, subst (Reaches h r) same_to to.2),
              λ p.
                  let at = read_contains h.cluster_roles s (reached_held h r s p.1) in
                  roles_in h.cluster_roles held.cluster_roles ks rising within at.0 s ((exact at.0).1 ((reached at.0).1 (s, at.1, p.1), (s, at.1, p.0))) at.1,
            );
          },
        ),
      )

-- an aggregation is there, or not
plain_or_not : (r : ClusterRole) (o : Option (List Selector)) → r.aggregation ≡ o → IsPlain r ⊎ (IsPlain r → ⊥)
plain_or_not r None e = inl e
plain_or_not r (Some selectors) e = inr (λ plain. let f = sym plain ∙ e in cc)

plain_at_or_not : (roles : List ClusterRole) (k : ℕ) → IsPlainAt roles k ⊎ (IsPlainAt roles k → ⊥)
plain_at_or_not roles k = elim ((slice_get_cases roles k).1) [
  | inl w ↦ elim (plain_or_not w.0 w.0.aggregation refl) [
    | inl plain ↦ inl (w.0, w.2, plain)
    | inr isnt ↦ inr (λ p. isnt (subst IsPlain (same_Some p.0 w.0 (sym p.1 ∙ w.2)) p.2))
  ]
  | inr w ↦ inr (λ p. let l = slice_get_within roles k p.0 p.1 in absurd (omega (arith, l, w.0)))
]

gathered_or_not : (h : Held) (places : List ℕ) (k : ℕ) → IsGatheredAt h places k ⊎ (IsGatheredAt h places k → ⊥)
gathered_or_not h places k = elim (cases_eq (bit_at (get_or places (k / 64) 0) (k % 64)) 1) [
  | inl has ↦ elim (plain_at_or_not h.cluster_roles k) [
    | inl plain ↦ inl (has, plain)
    | inr isnt ↦ inr (λ p. isnt p.1)
  ]
  | inr isnt ↦ inr (λ p. isnt p.0)
]

module _ (h : Held) (held : IsHeld h) (rows : Graph) (are : AreReachedByEach h rows) (at : ℕ) where
  pub gathered_at : {E : Type 0} (r : ClusterRole) (places : List ℕ) (o : Result (Vec ℕ Global) E) → slice_get h.cluster_roles at ≡ Some r → (IsPlain r → ⊥) → places ≡ get_or rows at places → IfOk o (λ row. IsUpTo (IsGatheredAt h places) row.items (length h.cluster_roles)) → IfOk o (λ row. AreSourcesAt h at row.items)
  gathered_at r places (Ok row) e aggregated read up = at_place h at r row.items e (gathered_from h held r aggregated places (reached_places h rows at r places are e read) row.items up)
  gathered_at r places (Err fault) e aggregated read up = tt

  -- each place has its sources
  pub some_sources : (ps : List ℕ) × AreSourcesAt h at ps
  some_sources = elim ((slice_get_cases h.cluster_roles at).1) [
    | inr w ↦ ([], λ r e. let l = slice_get_within h.cluster_roles at r e in absurd (omega (arith, l, w.0)))
    | inl w ↦ elim (plain_or_not w.0 w.0.aggregation refl) [
      | inl plain ↦ (at ∷ [], at_place h at w.0 (at ∷ []) w.2 (own_source h at w.0 w.2 plain))
      | inr aggregated ↦
          let places = get_or rows at [] in
          let some = some_list (IsGatheredAt h places) (gathered_or_not h places) (length h.cluster_roles) in
          (some.0, at_place h at w.0 some.0 w.2 (gathered_from h held w.0 aggregated places (are.exact at w.0 w.2) some.0 some.1))
    ]
  ]
