-- nodes that are met along edges
use Rattle.std.proofs.Common.{◌≡◌, ◌<◌, ◌++◌, ◌∷◌, [], ℕ, List, Bool, Option, Some, None, Contains, length, get_or, set, take, inl, inr, refl, sym, ◌∙◌, subst, arith, true, false, get_or-set_other}
use Rattle.std.proofs.Math.ListN.{get_or-eq_default}
use Rattle.std.proofs.lemmas.Bool.{cases_eq, cases_lt}
use Rattle.std.proofs.lemmas.List.{get_or-take, get_or_default, length-take}
use Rattle.std.proofs.lemmas.List.Kept.{AllPairs-from_increasing}
use Rattle.std.specs.List.Sorted.{IsStrictlyIncreasing}
use Rattle.std.proofs.lemmas.List.Elements.{Contains-append_left}
use Rattle.rbac_ways.proofs.Meets.{is_some_of, meets_then, none_some, of_pushed, pushed_here, still_met}
use Rattle.rbac_ways.specs.Meeting.{AreMet, IsAfterLeast, IsNext, IsNextTo, IsOneOf, ListHas, MeetsNodes, SomeHas, stop_behind, stop_at}
use Rattle.rbac_ways.specs.Ways.{GraphView, IsEdge}
use Rattle.rbac_ways.specs.declared.graph.Stop.{Stop}

pub in_none : {X : Type 0} (xs : List X) (x : X) → xs ≡ [] → Contains xs x → ⊥
in_none {X = X} xs x e w = let none : Contains {X = X} [] x = subst (λ (ys : List X). Contains ys x) e w in absurd (omega (arith, none.1))

-- a stop is of a node that is there
pub stop_within : (stops : List (Option Stop)) (j : ℕ) (s : Stop) → stop_at stops j ≡ Some s → j < length stops
stop_within stops j s e = elim (cases_lt j (length stops)) [
  | inl l ↦ l
  | inr le ↦ absurd (none_some (stop_at stops j) (get_or-eq_default stops None le) (is_some_of (stop_at stops j) s e))
]

module _ (Has : ℕ → ℕ → Type 0) where
  -- the nodes of one that is passed now are met
  pub met_more : (passed : List Bool) (old new : List (Option Stop)) (May : ℕ → Stop → Type 0) (l m : List ℕ) (k : ℕ) → AreMet Has passed old → MeetsNodes (Has k) May old new l m → AreMet Has (set passed k true) new
  met_more passed old new May l m k met meets at j is has there = elim (cases_eq at k) [
    | inl same ↦ meets.due j (subst (λ (a : ℕ). Has a j) same has) (let len = meets.len in omega (arith, len, there))
    | inr ne ↦ still_met old new meets.kept j (met at j (sym (get_or-set_other passed k at true false ne) ∙ is) has (let len = meets.len in omega (arith, len, there)))
  ]

  pub meets_more : (ks : List ℕ) (k : ℕ) (stop : Stop) (old between new : List (Option Stop)) (before middle after : List ℕ)
      → MeetsNodes (SomeHas Has ks) (IsOneOf (SomeHas Has ks) stop) old between before middle → MeetsNodes (Has k) (IsOneOf (Has k) stop) between new middle after
      → MeetsNodes (SomeHas Has (ks ++ k ∷ [])) (IsOneOf (SomeHas Has (ks ++ k ∷ [])) stop) old new before after
  meets_more ks k stop old between new before middle after first second =
      meets_then (SomeHas Has ks) (Has k) (SomeHas Has (ks ++ k ∷ [])) (IsOneOf (SomeHas Has ks) stop) (IsOneOf (Has k) stop) (IsOneOf (SomeHas Has (ks ++ k ∷ [])) stop) old between new before middle after first second
      (λ j w. elim (of_pushed ks k w.0 w.1) [
        | inl h ↦ inl (w.0, h, w.2)
        | inr same ↦ inr (subst (λ (x : ℕ). Has x j) same w.2)
      ])
      (λ j s w. ((w.0.0, Contains-append_left ks (k ∷ []) w.0.0 w.0.1, w.0.2), w.1))
      (λ j s not w. ((k, pushed_here ks k k refl, w.0), w.1))

-- all lists that a node takes are all its edges
pub meets_edges : (g : GraphView) (i edges : ℕ) (old new : List (Option Stop)) (l m : List ℕ) → length old ≡ length g.takes
    → MeetsNodes (SomeHas (ListHas g) (get_or g.takes i [])) (IsOneOf (SomeHas (ListHas g) (get_or g.takes i [])) (stop_behind edges i)) old new l m → MeetsNodes (IsEdge g i) (IsNext g edges i) old new l m
meets_edges g i edges old new l m len meets = record {
  len = meets.len;
  kept = meets.kept;
  due = λ j edge low. meets.due j (edge.list, edge.takes, (edge.set, edge.lists, edge.has)) low;
  may = λ j s none e. (let w = meets.may j s none e in (
    record {
      list = w.0.0;
      set = w.0.2.0;
      takes = w.0.1;
      lists = w.0.2.1;
      has = w.0.2.2;
      node = let low = stop_within new j s e in let same = meets.len in omega (arith, low, same, len);
    },
    w.1,
  ));
  joins = meets.joins;
  room = meets.room;
}

-- what is before a place of an ascending list is less than what is there
pub less_before : (xs : List ℕ) (i x b : ℕ) → IsStrictlyIncreasing xs → i < length xs → get_or xs i 0 ≡ x → Contains (take i xs) b → b < x
less_before xs i x b up low here w =
    let len = length-take i xs in
    let under : w.0 < i = omega (arith, w.1, len, low) in
    let at : get_or xs w.0 b ≡ b = sym (get_or-take i xs w.0 b under) ∙ w.2 in
    let there : get_or xs w.0 0 ≡ b = get_or_default xs w.0 0 b (omega (arith, under, low)) ∙ at in
    let less = AllPairs-from_increasing xs up w.0 i 0 under low in
    omega (arith, less, there, here)

pub meets_node : (g : GraphView) (edges : ℕ) (xs : List ℕ) (x : ℕ) (old between new : List (Option Stop)) (before middle after : List ℕ) → length old ≡ length g.takes
    → ((y : ℕ) → Contains xs y → y < x) → MeetsNodes (IsNextTo g xs) (IsAfterLeast g xs edges) old between before middle → MeetsNodes (IsEdge g x) (IsNext g edges x) between new middle after
    → MeetsNodes (IsNextTo g (xs ++ x ∷ [])) (IsAfterLeast g (xs ++ x ∷ []) edges) old new before after
meets_node g edges xs x old between new before middle after len less first second =
    meets_then (IsNextTo g xs) (IsEdge g x) (IsNextTo g (xs ++ x ∷ [])) (IsAfterLeast g xs edges) (IsNext g edges x) (IsAfterLeast g (xs ++ x ∷ []) edges) old between new before middle after first second
    (λ j w. elim (of_pushed xs x w.0 w.1) [
      | inl h ↦ inl (w.0, h, w.2)
      | inr same ↦ inr (subst (λ (y : ℕ). IsEdge g y j) same w.2)
    ])
    (λ j s is. record {
      next = is.next;
      before = Contains-append_left xs (x ∷ []) s.before is.before;
      least = λ i low has edge. elim (of_pushed xs x i has) [
        | inl h ↦ is.least i low h edge
        | inr same ↦ absurd (let below = less s.before is.before in omega (arith, low, same, below))
      ];
    })
    (λ j s not w. subst (λ (t : Stop). IsAfterLeast g (xs ++ x ∷ []) edges j t) (sym w.1) (record {
      next = (w.0, refl);
      before = pushed_here xs x x refl;
      least = λ i low has edge. elim (of_pushed xs x i has) [
        | inl h ↦ not (i, h, edge) (let node = edge.node in omega (arith, node, len))
        | inr same ↦ absurd (omega (arith, low, same))
      ];
    }))
