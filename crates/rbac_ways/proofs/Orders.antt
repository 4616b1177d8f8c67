-- the nodes in the order in which they are met
use Rattle.std.proofs.Common.{◌≡◌, ◌<◌, ◌≤◌, ◌+◌, ◌-◌, ◌++◌, [], ◌↔◌, ℕ, List, Option, Some, AllPairs, Contains, length, get_or, inl, inr, refl, sym, ap, ◌∙◌, arith}
use Rattle.std.proofs.lemmas.Bool.{cases_eq, cases_lt}
use Rattle.std.proofs.lemmas.List.{get_or-append-add, get_or_append_left, get_or_default, length-append}
use Rattle.std.proofs.lemmas.List.Elements.{Contains-append_cases, Contains-append_left, Contains-append_right}
use Rattle.std.proofs.lemmas.List.Kept.{AllPairs-from_increasing}
use Rattle.rbac_ways.proofs.Edges.{in_none}
use Rattle.rbac_ways.proofs.Meets.{either, is_some_of, some_of}
use Rattle.rbac_ways.specs.Meeting.{IsAfterLeast, IsMetTo, IsNextTo, MeetsNodes, stop_at}
use Rattle.rbac_ways.specs.Ways.{AreInOrder, GraphView, IsMetBefore}
use Rattle.rbac_ways.specs.declared.graph.Stop.{Stop}

-- what stands at a place of a list is in it
at_place : {X : Type 0} (xs : List X) (k : ℕ) (d : X) → k < length xs → Contains xs (get_or xs k d)
at_place xs k d low = (k, low, get_or_default xs k (get_or xs k d) d low)

-- each of a list and each later one, where two lists are put together
pub pairs_append : {X : Type 0} (R : X → X → Type 0) (xs ys : List X) → AllPairs R xs → AllPairs R ys → ((x y : X) → Contains xs x → Contains ys y → R x y) → AllPairs R (xs ++ ys)
pairs_append {X = X} R xs ys first second across i j d low within = elim (cases_lt j (length xs)) [
  | inl l ↦ rw (left i (omega (arith, low, l)), left j l) (first i j d low l)
  | inr le ↦ (elim (cases_lt i (length xs)) [
    | inl l ↦ rw (left i l, right j le) (across (get_or xs i d) (get_or ys (j - length xs) d) (at_place xs i d l) (at_place ys (j - length xs) d (under j le within)))
    | inr more ↦ rw (right i more, right j le) (second (i - length xs) (j - length xs) d (omega (arith, low, more)) (under j le within))
  ])
]
  where
    left : (k : ℕ) → k < length xs → get_or (xs ++ ys) k d ≡ get_or xs k d
    left k l = get_or_append_left xs ys d k l

    right : (k : ℕ) → length xs ≤ k → get_or (xs ++ ys) k d ≡ get_or ys (k - length xs) d
    right k le = ap (λ (n : ℕ). get_or (xs ++ ys) n d) (let is : k ≡ length xs + (k - length xs) = omega (arith, le) in is) ∙ get_or-append-add xs ys (k - length xs) d

    under : (k : ℕ) → length xs ≤ k → k < length (xs ++ ys) → k - length xs < length ys
    under k le lt = let len = length-append xs ys in omega (arith, le, lt, len)

-- the nodes that fewer edges lead to, in order
pub record AreInOrderTo (edges : ℕ) (stops : List (Option Stop)) (order : List ℕ) : Type 0 where
  pub exact : (j : ℕ) → Contains order j ↔ ((s : Stop) × (stop_at stops j ≡ Some s) × (s.edges < edges))
  pub ordered : AllPairs (IsMetBefore stops) order

pub in_order_none : (stops : List (Option Stop)) (order : List ℕ) → order ≡ [] → AreInOrderTo 0 stops order
in_order_none stops order none = record {
  exact = λ j. (λ h. absurd (in_none order j none h), λ w. absurd (let low = w.2 in omega (arith, low)));
  ordered = λ i j d low within. absurd (let len = ap length none in omega (arith, low, within, len));
}

-- and those of one level more
module _ (g : GraphView) (starts : List ℕ) (edges : ℕ) (stops new : List (Option Stop)) (level next : List ℕ)
    (met : IsMetTo g starts edges stops level) (meets : MeetsNodes (IsNextTo g level) (IsAfterLeast g level (edges + 1)) stops new [] next) where
  kept_before : (i j : ℕ) → IsMetBefore stops i j → IsMetBefore new i j
  kept_before i j w = (w.0, w.1, meets.kept i w.0 w.2, meets.kept j w.1 w.3, w.4)

  in_level : (i j : ℕ) → Contains level i → Contains level j → i < j → IsMetBefore new i j
  in_level i j first second low =
      let s = (met.last i).0 first in
      let t = (met.last j).0 second in
      (s.0, t.0, meets.kept i s.0 s.1, meets.kept j t.0 t.1, inr (s.2 ∙ sym t.2, low))

  level_pairs : AllPairs (IsMetBefore new) level
  level_pairs i j d low within =
      in_level (get_or level i d) (get_or level j d) (at_place level i d (omega (arith, low, within))) (at_place level j d within)
      (AllPairs-from_increasing level met.ordered i j d low within)

  old_stop : (j : ℕ) (s : Stop) → stop_at new j ≡ Some s → s.edges < edges + 1 → stop_at stops j ≡ Some s
  old_stop j s e low = elim (either (stop_at stops j)) [
    | inl none ↦ absurd (let more = ap (λ (t : Stop). t.edges) (meets.may j s none e).next.1 in omega (arith, more, low))
    | inr w ↦ w.1 ∙ sym (meets.kept j w.0 w.1) ∙ e
  ]

  module _ (order : List ℕ) (are : AreInOrderTo edges stops order) where
    across : (i j : ℕ) → Contains order i → Contains level j → IsMetBefore new i j
    across i j first second =
        let s = (are.exact i).0 first in
        let t = (met.last j).0 second in
        (s.0, t.0, meets.kept i s.0 s.1, meets.kept j t.0 t.1, inl (let low = s.2 in let same = t.2 in omega (arith, low, same)))

    pub in_order_more : AreInOrderTo (edges + 1) new (order ++ level)
    in_order_more = record {
      exact = λ j. (
        λ h. elim (Contains-append_cases order level j h) [
          | inl x ↦ (let s = (are.exact j).0 x in (s.0, meets.kept j s.0 s.1, let low = s.2 in omega (arith, low)))
          | inr x ↦ (let s = (met.last j).0 x in (s.0, meets.kept j s.0 s.1, let same = s.2 in omega (arith, same)))
        ],
        λ w. (let e = old_stop j w.0 w.1 w.2 in elim (cases_eq w.0.edges edges) [
          | inl same ↦ Contains-append_right order level j ((met.last j).1 (w.0, e, same))
          | inr ne ↦ Contains-append_left order level j ((are.exact j).1 (w.0, e, let low = w.2 in omega (arith, low, ne)))
        ]),
      );
      ordered = pairs_append (IsMetBefore new) order level (λ i j d low within. kept_before (get_or order i d) (get_or order j d) (are.ordered i j d low within)) level_pairs across;
    }

-- nothing is left to be met
pub in_order_all : (g : GraphView) (starts : List ℕ) (edges : ℕ) (stops : List (Option Stop)) → IsMetTo g starts edges stops [] → (order : List ℕ) → AreInOrderTo edges stops order → AreInOrder stops order
in_order_all g starts edges stops met order are = record {
  exact = λ j. (
    λ h. (let s = (are.exact j).0 h in is_some_of (stop_at stops j) s.0 s.1),
    λ is. (let s = some_of (stop_at stops j) is in (are.exact j).1 (
      s.0,
      s.1,
      elim (cases_eq s.0.edges edges) [
        | inl same ↦ absurd (in_none [] j refl ((met.last j).1 (s.0, s.1, same)))
        | inr ne ↦ (let low = (met.sound j s.0 s.1).1 in omega (arith, low, ne))
      ],
    )),
  );
  ordered = are.ordered;
}
