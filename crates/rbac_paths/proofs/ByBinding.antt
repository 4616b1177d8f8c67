-- Bindings that are marked by their grants, and grants that are listed by their bindings, one grant
-- after another.
use Rattle.std.proofs.Common.{◌≡◌, ◌↔◌, ◌∙◌, ◌<◌, ◌+◌, ◌++◌, ◌∷◌, [], ℕ, Bool, List, Any, Contains, IsTrue, Some, ap, arith, false, get_or, get_or-set_other, get_or-set_same, inl, inr, length, replicate, set, subst, sym, true}
use Rattle.std.proofs.Math.ListN.{get_or-eq_default, length-set}
use Rattle.std.proofs.lemmas.Bool.{cases_eq, cases_lt}
use Rattle.std.proofs.lemmas.List.{get_or-replicate, length-replicate}
use Rattle.std.proofs.lemmas.List.Elements.{Contains-append_left, Contains-push, Contains-push_cases}
use Rattle.std.proofs.lemmas.Option.{same_Some, slice_get-get_or, slice_get_within}
use Rattle.rbac_terms.specs.Principals.{Who}
use Rattle.rbac_model.proofs.BindingPlaces.{of_some_binding, one_binding_place}
use Rattle.rbac_model.proofs.GrantNumbers.{any_at, grant_allows, some_grant}
use Rattle.rbac_model.proofs.OwnWords.{any_from}
use Rattle.rbac_model.specs.Policies.{BindingNames, GrantAllows, GrantView, IsOfBinding, IsPolicy, PolicyView}
use Rattle.rbac_subjects.specs.Bound.{AreNamedPlaces}
use Rattle.rbac_subjects.proofs.PrincipalLemmas.{no_mark}
use Rattle.rbac_paths.specs.Access.{AccessView, AllowsAccess}
use Rattle.rbac_paths.specs.Aims.{Serves}
use Rattle.rbac_paths.specs.Allowed.{MarkAllowing}
use Rattle.rbac_paths.specs.Nodes.{Somebody}

-- marked are exactly the bindings of the first `count` grants that have the property
pub record AreMarkedBelow (p : PolicyView) (P : ℕ → Type 0) (count : ℕ) (marks : List Bool) : Type 0 where
  pub len : length marks ≡ length p.held.bindings
  pub each : (at : ℕ) → IsTrue (get_or marks at false) ↔ ((n : ℕ) × (n < count) × IsOfBinding p n at × P n)

module _ (p : PolicyView) (ok : IsPolicy p) (P : ℕ → Type 0) where
  pub none_marked : (marks : List Bool) → marks ≡ replicate (length p.held.bindings) false → AreMarkedBelow p P 0 marks
  none_marked marks are = record {
    len = ap length are ∙ length-replicate (length p.held.bindings) false;
    each = λ at. (
      λ is. absurd (no_mark (length p.held.bindings) at (subst (λ (ms : List Bool). IsTrue (get_or ms at false)) are is)),
      λ w. absurd (let low = w.1 in omega (arith, low)),
    );
  }

  module _ (count : ℕ) (marks : List Bool) (below : AreMarkedBelow p P count marks) where
    module _ (place : ℕ) (of : IsOfBinding p count place) where
      pub place_within : place < length marks
      place_within = let low = slice_get_within p.held.bindings place of.0.binding of.2 in let len = below.len in omega (arith, low, len)

      pub marked_more : P count → AreMarkedBelow p P (count + 1) (set marks place true)
      marked_more is = record {
        len = length-set marks place true ∙ below.len;
        each = λ at. elim (cases_eq at place) [
          | inl same ↦ (
            λ _. (count, omega arith, subst (λ (k : ℕ). IsOfBinding p count k) (sym same) of, is),
            λ _. subst (λ (k : ℕ). IsTrue (get_or (set marks place true) k false)) (sym same) (get_or-set_same marks place true false place_within),
          )
          | inr other ↦ (let kept = get_or-set_other marks place at true false other in (
            λ t. (let w = (below.each at).0 (sym kept ∙ t) in (w.0, (let low = w.1 in omega (arith, low)), w.2, w.3)),
            λ w. kept ∙ (below.each at).1 (elim (cases_eq w.0 count) [
              | inl now ↦ absurd (other (one_binding_place p ok count at place (subst (λ (n : ℕ). IsOfBinding p n at) now w.2) of))
              | inr earlier ↦ (w.0, (let low = w.1 in omega (arith, low, earlier)), w.2, w.3)
            ]),
          ))
        ];
      }

    pub marked_same : (P count → ⊥) → AreMarkedBelow p P (count + 1) marks
    marked_same isnt = record {
      len = below.len;
      each = λ at. (
        λ t. (let w = (below.each at).0 t in (w.0, (let low = w.1 in omega (arith, low)), w.2, w.3)),
        λ w. (below.each at).1 (elim (cases_eq w.0 count) [
          | inl now ↦ absurd (isnt (subst P now w.3))
          | inr earlier ↦ (w.0, (let low = w.1 in omega (arith, low, earlier)), w.2, w.3)
        ]),
      );
    }

    pub marked_all : count ≡ length p.grants → (at : ℕ) → IsTrue (get_or marks at false) ↔ ((n : ℕ) × IsOfBinding p n at × P n)
    marked_all end at = (
      λ t. (let w = (below.each at).0 t in (w.0, w.2, w.3)),
      λ w. (below.each at).1 (w.0, (let low = slice_get_within p.grants w.0 w.1.0 w.1.1 in omega (arith, low, end)), w.1, w.2),
    )

-- the first `count` grants that have the property are listed, each at the place of its binding
pub record AreListedBelow (p : PolicyView) (P : ℕ → Type 0) (count : ℕ) (lists : List (List ℕ)) : Type 0 where
  pub len : length lists ≡ length p.held.bindings
  pub each : (n at : ℕ) → Contains (get_or lists at []) n ↔ ((n < count) × IsOfBinding p n at × P n)

-- the binding of a grant has a list
pub list_there : (p : PolicyView) (n place : ℕ) (lists : List (List ℕ)) → length lists ≡ length p.held.bindings → IsOfBinding p n place → place < length lists
list_there p n place lists len of = let low = slice_get_within p.held.bindings place of.0.binding of.2 in omega (arith, low, len)

module _ (p : PolicyView) (ok : IsPolicy p) (P : ℕ → Type 0) where
  none_at : (count at n : ℕ) → Contains (get_or (replicate count []) at []) n → ⊥
  none_at count at n is = elim (cases_lt at count) [
    | inl low ↦ (let none = (subst (λ (ks : List ℕ). Contains ks n) (get_or-replicate count at [] [] low) is).1 in omega (arith, none))
    | inr high ↦ (
        let past : get_or (replicate count []) at [] ≡ [] = get_or-eq_default (replicate count []) [] (let len = length-replicate {A = List ℕ} count [] in omega (arith, high, len)) in
        let none = (subst (λ (ks : List ℕ). Contains ks n) past is).1 in omega (arith, none)
        )
  ]

  pub none_listed : (lists : List (List ℕ)) → lists ≡ replicate (length p.held.bindings) [] → AreListedBelow p P 0 lists
  none_listed lists are = record {
    len = ap length are ∙ length-replicate (length p.held.bindings) [];
    each = λ n at. (
      λ is. absurd (none_at (length p.held.bindings) at n (subst (λ (ls : List (List ℕ)). Contains (get_or ls at []) n) are is)),
      λ w. absurd (let low = w.0 in omega (arith, low)),
    );
  }

  module _ (count : ℕ) (lists : List (List ℕ)) (below : AreListedBelow p P count lists) where
    module _ (place : ℕ) (of : IsOfBinding p count place) where
      list_within : place < length lists
      list_within = let low = slice_get_within p.held.bindings place of.0.binding of.2 in let len = below.len in omega (arith, low, len)

      had : List ℕ
      had = get_or lists place []

      more : List ℕ
      more = had ++ count ∷ []

      here : get_or (set lists place more) place [] ≡ more
      here = get_or-set_same lists place more [] list_within

      pub listed_more : P count → AreListedBelow p P (count + 1) (set lists place (get_or lists place [] ++ count ∷ []))
      unfolding more had
      listed_more is = record {
        len = length-set lists place more ∙ below.len;
        each = λ n at. elim (cases_eq at place) [
          | inl same ↦ subst (λ (k : ℕ). Contains (get_or (set lists place more) k []) n ↔ ((n < count + 1) × IsOfBinding p n k × P n)) (sym same) (
            λ c. elim (Contains-push_cases had count n (subst (λ (ks : List ℕ). Contains ks n) here c)) [
              | inl old ↦ (let w = (below.each n place).0 old in ((let low = w.0 in omega (arith, low)), w.1, w.2))
              | inr new ↦ (omega (arith, new), subst (λ (k : ℕ). IsOfBinding p k place) new of, subst P new is)
            ],
            λ w. subst (λ (ks : List ℕ). Contains ks n) (sym here) (elim (cases_eq n count) [
              | inl new ↦ subst (Contains more) (sym new) (Contains-push had count)
              | inr earlier ↦ Contains-append_left had (count ∷ []) n ((below.each n place).1 ((let low = w.0 in omega (arith, low, earlier)), w.1, w.2))
            ]),
          )
          | inr other ↦ (let kept = get_or-set_other lists place at more [] other in (
            λ c. (let w = (below.each n at).0 (subst (λ (ks : List ℕ). Contains ks n) kept c) in ((let low = w.0 in omega (arith, low)), w.1, w.2)),
            λ w. subst (λ (ks : List ℕ). Contains ks n) (sym kept) ((below.each n at).1 (elim (cases_eq n count) [
              | inl new ↦ absurd (other (one_binding_place p ok count at place (subst (λ (k : ℕ). IsOfBinding p k at) new w.1) of))
              | inr earlier ↦ ((let low = w.0 in omega (arith, low, earlier)), w.1, w.2)
            ])),
          ))
        ];
      }

    pub listed_same : (P count → ⊥) → AreListedBelow p P (count + 1) lists
    listed_same isnt = record {
      len = below.len;
      each = λ n at. (
        λ c. (let w = (below.each n at).0 c in ((let low = w.0 in omega (arith, low)), w.1, w.2)),
        λ w. (below.each n at).1 (elim (cases_eq n count) [
          | inl new ↦ absurd (isnt (subst P new w.2))
          | inr earlier ↦ ((let low = w.0 in omega (arith, low, earlier)), w.1, w.2)
        ]),
      );
    }

    pub listed_all : count ≡ length p.grants → (n at : ℕ) → Contains (get_or lists at []) n ↔ (IsOfBinding p n at × P n)
    listed_all end n at = (
      λ c. (let w = (below.each n at).0 c in (w.1, w.2)),
      λ w. (below.each n at).1 ((let low = slice_get_within p.grants n w.0.0 w.0.1 in omega (arith, low, end)), w.0, w.1),
    )

-- a request is allowed to a principal exactly if a binding that names it is marked
pub allowed_named : (p : PolicyView) → IsPolicy p → (who : Who) (asked : AccessView) (marks : List Bool) (places : List ℕ) → MarkAllowing p asked marks → AreNamedPlaces p who places
    → Any (λ place. IsTrue (get_or marks place false)) places ↔ AllowsAccess p asked (Somebody who)
unfolding Serves
allowed_named p ok who asked marks places marked named = (
  λ a.
      (let m = (marked a.1).0 a.4 in
      let by = (named m.0 a.1 m.1).0 (a.0, a.2, a.3) in
      let g = m.2.0 in
      let names = subst (λ (x : GrantView). BindingNames x.binding who) (same_Some by.0 g (sym by.1 ∙ m.2.1)) by.2 in
      grant_allows p ok who asked.namespace asked.verb asked.target
      (any_at (GrantAllows who asked.namespace asked.verb asked.target) p.grants m.0 g m.2.1 (m.2.2.0, names, m.2.2.1))),
  λ allowed.
      (let a = some_grant p.held p.grants who asked.namespace asked.verb asked.target ok.0 ok.1 allowed in
      let of = of_some_binding p ok a.0 a.2 in
      let here = slice_get-get_or p.grants a.0 a.1 a.2 ∙ ap (λ (g : GrantView). Some g) a.3 in
      any_from (λ place. IsTrue (get_or marks place false)) places of.0 ((named a.0 of.0 of.1).1 (a.1, here, a.4.1)) ((marked of.0).1 (a.0, of.1, (a.1, here, (a.4.0, a.4.2))))),
)
