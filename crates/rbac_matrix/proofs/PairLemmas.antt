-- the pairs of requests and bindings that are left, and which of them are granted
use Rattle.std.proofs.Common.{◌≡◌, ℕ, zero, suc, ◌+◌, ◌<◌, ◌≤◌, ◌⊎◌, List, [], ◌∷◌, ◌++◌, drop, map, Contains, refl, ap, ◌∙◌, sym, arith, append_assoc, subst, inl, inr, add-one}
use Rattle.std.specs.Prelude.{Some, slice_get, ◌↔◌}
use Rattle.std.proofs.lemmas.Bool.{cases_lt}
use Rattle.std.proofs.lemmas.Grind.{flat_map-append}
use Rattle.std.proofs.lemmas.List.{map-append}
use Rattle.std.proofs.lemmas.Option.{same_Some, slice_get-get_or, get_or_from_slice_get, slice_get_within}
use Rattle.rbac_terms.specs.declared.granting.Binding.{Binding}
use Rattle.rbac_model.specs.Policies.{PolicyView, IsPolicy, SourcedRule, IsOfBinding}
use Rattle.rbac_model.specs.Universes.{UniverseView, Listed, Cell, RowView}
use Rattle.rbac_model.proofs.GrantNumbers.{binding_of, grant_by, number_of}
use Rattle.rbac_universe.proofs.Flattened.{contains_flat, contains_map, here, in_cons, there}
use Rattle.rbac_matrix.specs.Cells.{AreRowsOf}
use Rattle.rbac_matrix.specs.Lines.{LineView}
use Rattle.rbac_matrix.specs.Pairs.{AreThose, IsGranted, cell_pairs, pair_of, pairs_of}
use Rattle.rbac_matrix.specs.EveryLeft.{AreBelow, pairs_from}
use Rattle.rbac_matrix.specs.Passing.{HasNoHit, IsNoEarlier, IsHit, IsNextHit, cell_of}
use Rattle.rbac_matrix.proofs.Decided.{first}
use Rattle.rbac_matrix.proofs.RowLemmas.{rows_complete}
use Rattle.rbac_matrix.proofs.SearchLemmas.{in_drop}

-- ---- the elements of a list that have a property

module _ {X : Type 0} (P : X → Type 0) where
  pub those_none : (xs ys all : List X) → ((x : X) → Contains xs x → P x → ⊥) → AreThose P (xs ++ ys) all ↔ AreThose P ys all
  those_none [] ys all none = (λ h. h, λ h. h)
  those_none (x ∷ xs) ys all none =
      let rest = those_none xs ys all (λ y w. none y (there x xs y w)) in (
        λ h. elim h [ inl p ↦ absurd (none x (here x xs) p.0) | inr p ↦ rest.0 p.1 ],
        λ h. inr (none x (here x xs), rest.1 h),
      )

  pub those_first : (x : X) (ys all : List X) → P x → AreThose P (x ∷ ys) all ↔ ((others : List X) × (all ≡ x ∷ others) × AreThose P ys others)
  those_first x ys all p = (
    λ h. elim h [ inl q ↦ (q.1.0, q.1.2, q.1.1) | inr q ↦ absurd (q.0 p) ],
    λ w. inl (p, (w.0, w.2, w.1)),
  )

  -- the first element that has the property, after elements that don't have it
  pub those_next : (old skipped new : List X) (x : X) → old ≡ skipped ++ x ∷ new → ((y : X) → Contains skipped y → P y → ⊥) → P x
      → (all : List X) → AreThose P old all ↔ ((others : List X) × (all ≡ x ∷ others) × AreThose P new others)
  those_next old skipped new x e none p all =
      let skip = those_none skipped (x ∷ new) all none in
      let first = those_first x new all p in (
        λ h. first.0 (skip.0 (subst (λ (xs : List X). AreThose P xs all) e h)),
        λ w. subst (λ (xs : List X). AreThose P xs all) (sym e) (skip.1 (first.1 w)),
      )

-- the rest of a list from place b on: some elements, then the element at place i, then the others
pub between : {X : Type 0} (xs : List X) (b i : ℕ) (x : X) → b ≤ i → slice_get xs i ≡ Some x
    → (skipped : List X) × (drop b xs ≡ skipped ++ x ∷ drop (suc i) xs) × ((y : X) → Contains skipped y → (j : ℕ) × (b ≤ j) × (j < i) × (slice_get xs j ≡ Some y))
between [] b i x le at = cc
between (y ∷ xs) zero zero x le at = ([], ap (λ z. z ∷ xs) (same_Some y x at), λ z w. absurd (omega (arith, w.1)))
between {X} (y ∷ xs) zero (suc i) x le at =
    let r = between xs zero i x (omega arith) at in (
      y ∷ r.0,
      ap (λ (l : List X). y ∷ l) r.1,
      λ z w. elim (in_cons y r.0 z w) [
        | inl e ↦ (0, omega arith, omega arith, ap (λ v. Some v) e)
        | inr v ↦ let s = r.2 z v in (suc s.0, omega arith, omega (arith, s.2), s.3)
      ],
    )
between (y ∷ xs) (suc b) zero x le at = absurd (omega arith)
between (y ∷ xs) (suc b) (suc i) x le at =
    let r = between xs b i x (omega arith) at in
    (r.0, r.1, λ z w. let s = r.2 z w in (suc s.0, omega (arith, s.1), omega (arith, s.2), s.3))

-- ---- granted pairs, and the hits of a line

module _ (p : PolicyView) (policy : IsPolicy p) where
  -- if these requests have no rows, no binding grants one of them
  pub rowless_pairs : (cs : List Cell) → AreRowsOf p.held cs [] → (c : Cell) (b : Binding) → Contains cs c → Contains p.held.bindings b → IsGranted p.held (pair_of c b) → ⊥
  rowless_pairs cs none c b w v granted =
      elim (first p.held policy.0 c.who c.namespace c.verb c.target.0 p.held.bindings p.grants policy.1) [
        | inl f ↦
            let in_none = rows_complete p.held cs [] none (pair_of c f.1) w (granted.0, (f.0, f.2)) in
            omega (arith, in_none.1)
        | inr nothing ↦ nothing v.0 b (slice_get-get_or p.held.bindings v.0 b v.1 ∙ ap (λ (x : Binding). Some x) v.2) granted.1
      ]

  module _ (u : UniverseView) (l : LineView) where
    -- if a binding grants the line's request for a target, one of its grants is a hit
    pub granted_hit : (q j : ℕ) (t : Listed) (b : Binding) → slice_get u.targets q ≡ Some t → slice_get p.held.bindings j ≡ Some b → IsGranted p.held (pair_of (cell_of l t) b) → (k : ℕ) × IsHit p u l q k × IsOfBinding p k j
    granted_hit q j t b at bound granted =
        let brings = granted.1.2 in
        let rules = brings.0 in
        let rule = brings.2.1 in
        let read : slice_get rules brings.2.0 ≡ Some rule = slice_get-get_or rules brings.2.0 rule brings.2.2 ∙ ap (λ (v : SourcedRule). Some v) brings.2.3 in
        let n = number_of p.held policy.0 p.held.bindings p.grants j b rules brings.2.0 rule policy.1 bound brings.1 read in (
          n.0,
          record { target = t; grant = grant_by b rule; target_at = at; grant_at = n.1; fits = granted.0; allows = (granted.1.0, granted.1.1, brings.2.4) },
          (grant_by b rule, n.1, bound),
        )

    -- the binding of a hit's grant grants the request
    pub hit_granted : (q k : ℕ) (h : IsHit p u l q k) → IsGranted p.held (pair_of (cell_of l h.target) h.grant.binding)
    hit_granted q k h =
        let of = binding_of p.held p.held.bindings p.grants k h.grant policy.1 h.grant_at in
        let rules = of.2.0 in
        let at = of.2.2 in
        (h.fits, (h.allows.0, h.allows.1, (rules, of.2.1, (at.0, h.grant.rule, slice_get_within rules at.0 h.grant.rule at.1, get_or_from_slice_get rules at.0 h.grant.rule h.grant.rule at.1, h.allows.2))))

    module _ (from upto b : ℕ) (below : AreBelow p upto b) where
      -- a grant of a binding from place b on isn't before `from` and `upto`
      pub onward_grant : (q k j : ℕ) → IsOfBinding p k j → (from < q) ⊎ ((from ≡ q) × (b ≤ j)) → IsNoEarlier q k from upto
      onward_grant q k j of (inl lt) = inl lt
      onward_grant q k j of (inr same) = inr (
        same.0,
        elim (cases_lt k upto) [
          | inl lt ↦ absurd (let early = (below k j of).0 lt in omega (arith, same.1))
          | inr ge ↦ ge
        ],
      )

      -- if there is no hit from `from` and `upto` on, no binding from b on grants a request from
      -- there on
      pub none_granted : HasNoHit p u l from upto → (q j : ℕ) (t : Listed) (x : Binding) → slice_get u.targets q ≡ Some t → slice_get p.held.bindings j ≡ Some x → (from < q) ⊎ ((from ≡ q) × (b ≤ j)) → IsGranted p.held (pair_of (cell_of l t) x) → ⊥
      none_granted none q j t x at bound onward granted =
          let h = granted_hit q j t x at bound granted in
          none q h.0 h.1 (onward_grant q h.0 j h.2 onward)

      module _ (place number start end i : ℕ) (next : IsNextHit p u l from upto place number) (of : IsOfBinding p number i)
          (own : (n at : ℕ) → IsOfBinding p n at → ((start ≤ n) × (n < end)) ↔ (at ≡ i)) (ends : (n at : ℕ) → IsOfBinding p n at → (n < end) ↔ (at ≤ i)) where
        -- no binding grants a request between `from` and the next hit
        pub none_before : (q j : ℕ) (t : Listed) (x : Binding) → slice_get u.targets q ≡ Some t → slice_get p.held.bindings j ≡ Some x → (from < q) ⊎ ((from ≡ q) × (b ≤ j))
            → (q < place) ⊎ ((q ≡ place) × (j < i)) → IsGranted p.held (pair_of (cell_of l t) x) → ⊥
        none_before q j t x at bound onward before granted =
            let h = granted_hit q j t x at bound granted in
            let late = next.first q h.0 h.1 (onward_grant q h.0 j h.2 onward) in
            let first : start ≤ number = ((own number i of).1 refl).0 in
            elim before [
              | inl lt ↦ elim late [ inl above ↦ omega arith | inr same ↦ omega (arith, same.0) ]
              | inr same ↦
                  let here : h.0 < end = (ends h.0 j h.2).1 (omega (arith, same.1)) in
                  elim late [
                    | inl above ↦ omega (arith, same.0)
                    | inr there ↦ let one : j ≡ i = (own h.0 j h.2).0 (omega (arith, there.1), here) in omega (arith, same.1)
                  ]
            ]

        -- the binding of the next hit isn't before place b
        pub next_binding : from ≡ place → b ≤ i
        next_binding e = elim next.onward [
          | inl lt ↦ omega arith
          | inr same ↦ elim (cases_lt i b) [
            | inl lt ↦ absurd (let early = (below number i of).1 lt in omega (arith, same.1))
            | inr ge ↦ ge
          ]
        ]

-- ---- pairs, request by request

module _ (bs : List Binding) where
  pub pairs_zero : (cs : List Cell) → pairs_from bs 0 cs ≡ pairs_of bs cs
  pairs_zero [] = refl
  pairs_zero (c ∷ cs) = refl

  pub pairs_append : (cs ds : List Cell) → pairs_of bs (cs ++ ds) ≡ pairs_of bs cs ++ pairs_of bs ds
  pairs_append cs ds = flat_map-append (cell_pairs bs) cs ds

  module _ (c : Cell) (cs : List Cell) (i : ℕ) (x : Binding) (at : slice_get bs i ≡ Some x) where
    -- the pairs of a request with the bindings up to one, and with the bindings after it
    pub cell_split : (b : ℕ) (le : b ≤ i) → pairs_from bs b (c ∷ cs) ≡ map (pair_of c) (between bs b i x le at).0 ++ pair_of c x ∷ pairs_from bs (i + 1) (c ∷ cs)
    cell_split b le =
        let r = between bs b i x le at in
        let e : map (pair_of c) (drop b bs) ≡ map (pair_of c) r.0 ++ pair_of c x ∷ map (pair_of c) (drop (i + 1) bs) =
        ap (map (pair_of c)) r.1 ∙ map-append (pair_of c) r.0 (x ∷ drop (suc i) bs) ∙ rw add-one refl in
        ap (λ (l : List RowView). l ++ pairs_of bs cs) e ∙ append_assoc (map (pair_of c) r.0) (pair_of c x ∷ map (pair_of c) (drop (i + 1) bs)) (pairs_of bs cs)

    pub split_in : (b : ℕ) (le : b ≤ i) (r : RowView) → Contains (map (pair_of c) (between bs b i x le at).0) r → (j : ℕ) × (y : Binding) × (b ≤ j) × (j < i) × (slice_get bs j ≡ Some y) × (pair_of c y ≡ r)
    split_in b le r w =
        let m = contains_map (pair_of c) (between bs b i x le at).0 r w in
        let s = (between bs b i x le at).2 m.0 m.1 in
        (s.0, m.0, s.1, s.2, s.3, m.2)

  -- a pair of the first request, or of one of the other requests
  pub first_in : (d : Cell) (b : ℕ) (r : RowView) → Contains (map (pair_of d) (drop b bs)) r → (j : ℕ) × (y : Binding) × (b ≤ j) × (slice_get bs j ≡ Some y) × (pair_of d y ≡ r)
  first_in d b r w =
      let m = contains_map (pair_of d) (drop b bs) r w in
      let s = in_drop bs b m.0 m.1 in
      (s.0, m.0, s.1, s.2, m.2)

  pub others_in : (cs : List Cell) (r : RowView) → Contains (pairs_of bs cs) r → (c : Cell) × (y : Binding) × Contains cs c × Contains bs y × (pair_of c y ≡ r)
  others_in cs r w =
      let f = contains_flat (cell_pairs bs) cs r w in
      let m = contains_map (pair_of f.0) bs r f.2 in
      (f.0, m.0, f.1, m.1, m.2)
