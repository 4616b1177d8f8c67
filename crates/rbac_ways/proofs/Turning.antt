-- lists to which a node is added at each of its numbers
use Rattle.std.proofs.Common.{◌≡◌, ◌<◌, ◌≤◌, ◌+◌, ◌++◌, ◌∷◌, [], ◌⊎◌, ◌↔◌, ℕ, List, Contains, length, get_or, set, replicate, inl, inr, refl, sym, ◌∙◌, subst, arith, get_or-set_same, get_or-set_other}
use Rattle.std.proofs.Math.ListN.{length-set, get_or-eq_default}
use Rattle.std.proofs.lemmas.Bool.{cases_eq, cases_lt}
use Rattle.std.proofs.lemmas.List.{get_or-replicate, length-replicate}
use Rattle.std.proofs.lemmas.List.Elements.{Contains-append_left, Contains-append_right, Contains-append_cases}
use Rattle.rbac_ways.proofs.Meets.{of_pushed, one, pushed_here}
use Rattle.rbac_ways.proofs.Edges.{in_none}
use Rattle.rbac_ways.specs.Joining.{AddsToEach, AreTurned, IsListedAt}
use Rattle.rbac_ways.specs.Ways.{GraphView, IsEdge}

-- what is in a list at a place: the place is there
pub listed_within : {X : Type 0} (lists : List (List X)) (i : ℕ) (x : X) → Contains (get_or lists i []) x → i < length lists
listed_within lists i x has = elim (cases_lt i (length lists)) [
  | inl l ↦ l
  | inr le ↦ absurd (in_none (get_or lists i []) x (get_or-eq_default lists [] le) has)
]

-- a node is added to one list
pub adds_here : (place node : ℕ) (lists : List (List ℕ)) → place < length lists → AddsToEach (place ∷ []) node lists (set lists place (get_or lists place [] ++ node ∷ []))
adds_here place node lists low = record { len = length-set lists place more; each = each }
  where
    had : List ℕ
    had = get_or lists place []

    more : List ℕ
    more = had ++ node ∷ []

    here : get_or (set lists place more) place [] ≡ more
    here = get_or-set_same lists place more [] low

    at_place : (j : ℕ) → IsListedAt (set lists place more) place j ↔ (Contains had j ⊎ ((j ≡ node) × Contains (place ∷ []) place))
    at_place j = (
      λ h. elim (of_pushed had node j (subst (λ (xs : List ℕ). Contains xs j) here h)) [ inl l ↦ inl l | inr same ↦ inr (same, (0, omega arith, refl)) ],
      λ h. subst (λ (xs : List ℕ). Contains xs j) (sym here) (elim h [ inl l ↦ Contains-append_left had (node ∷ []) j l | inr w ↦ pushed_here had node j w.0 ]),
    )

    each : (i j : ℕ) → i < length lists → IsListedAt (set lists place more) i j ↔ (IsListedAt lists i j ⊎ ((j ≡ node) × Contains (place ∷ []) i))
    each i j there = elim (cases_eq i place) [
      | inl same ↦ subst (λ (k : ℕ). IsListedAt (set lists place more) k j ↔ (IsListedAt lists k j ⊎ ((j ≡ node) × Contains (place ∷ []) k))) (sym same) (at_place j)
      | inr ne ↦ (let kept : get_or (set lists place more) i [] ≡ get_or lists i [] = get_or-set_other lists place i more [] ne in (
        λ h. inl (subst (λ (xs : List ℕ). Contains xs j) kept h),
        λ h. elim h [ inl l ↦ subst (λ (xs : List ℕ). Contains xs j) (sym kept) l | inr w ↦ absurd (ne (one place i w.1)) ],
      ))
    ]

-- a node is added at some places, and then at one more
pub adds_then : (places : List ℕ) (place node : ℕ) (old between new : List (List ℕ)) → AddsToEach places node old between → AddsToEach (place ∷ []) node between new → AddsToEach (places ++ place ∷ []) node old new
adds_then places place node old between new first next = record {
  len = next.len ∙ first.len;
  each = λ i j low. (let there : i < length between = let same = first.len in omega (arith, low, same) in (
    λ h. elim ((next.each i j there).0 h) [
      | inl l ↦ elim ((first.each i j low).0 l) [ inl x ↦ inl x | inr w ↦ inr (w.0, Contains-append_left places (place ∷ []) i w.1) ]
      | inr w ↦ inr (w.0, Contains-append_right places (place ∷ []) i w.1)
    ],
    λ h. (next.each i j there).1 (elim h [
      | inl x ↦ inl ((first.each i j low).1 (inl x))
      | inr w ↦ elim (Contains-append_cases places (place ∷ []) i w.1) [
        | inl x ↦ inl ((first.each i j low).1 (inr (w.0, x)))
        | inr x ↦ inr (w.0, x)
      ]
    ]),
  ));
}

-- the nodes below a bound are listed at the numbers that they have
pub record AreListedBelow (Has : ℕ → ℕ → Type 0) (count bound : ℕ) (lists : List (List ℕ)) : Type 0 where
  pub len : length lists ≡ count
  pub each : (i j : ℕ) → i < count → IsListedAt lists i j ↔ ((j < bound) × Has j i)

pub listed_none : (Has : ℕ → ℕ → Type 0) (count : ℕ) → AreListedBelow Has count 0 (replicate count [])
listed_none Has count = record {
  len = let nothing : List ℕ = [] in length-replicate count nothing;
  each = λ i j low. (λ h. absurd (in_none (get_or (replicate count []) i []) j (get_or-replicate count i [] [] low) h), λ w. absurd (omega (arith, w.0)));
}

pub listed_more : (Has : ℕ → ℕ → Type 0) (count node : ℕ) (numbers : List ℕ) (old new : List (List ℕ)) → ((i : ℕ) → Contains numbers i ↔ Has node i)
    → AreListedBelow Has count node old → AddsToEach numbers node old new → AreListedBelow Has count (node + 1) new
listed_more Has count node numbers old new is below adds = record {
  len = adds.len ∙ below.len;
  each = λ i j low. (let there : i < length old = let same = below.len in omega (arith, low, same) in (
    λ h. elim ((adds.each i j there).0 h) [
      | inl l ↦ (let w = (below.each i j low).0 l in (let less = w.0 in omega (arith, less), w.1))
      | inr w ↦ (let same = w.0 in omega (arith, same), subst (λ (k : ℕ). Has k i) (sym w.0) ((is i).0 w.1))
    ],
    λ w. (adds.each i j there).1 (elim (cases_eq j node) [
      | inl same ↦ inr (same, (is i).1 (subst (λ (k : ℕ). Has k i) same w.1))
      | inr ne ↦ inl ((below.each i j low).1 (let less = w.0 in omega (arith, less, ne), w.1))
    ]),
  ));
}

pub listed_all : (Has : ℕ → ℕ → Type 0) (count bound : ℕ) (lists : List (List ℕ)) → ((j i : ℕ) → Has j i → j < bound) → AreListedBelow Has count bound lists
    → (i j : ℕ) → i < count → IsListedAt lists i j ↔ Has j i
listed_all Has count bound lists within below i j low = (λ h. ((below.each i j low).0 h).1, λ has. (below.each i j low).1 (within j i has, has))

-- the lists are turned
pub all_turned : (lists : List (List ℕ)) (count : ℕ) (turned : List (List ℕ)) (bound : ℕ) → length lists ≤ bound → AreListedBelow (IsListedAt lists) count bound turned → AreTurned lists count turned
all_turned lists count turned bound all below = record {
  len = below.len;
  each = λ i j low. listed_all (IsListedAt lists) count bound turned (λ k n has. let there = listed_within lists k n has in omega (arith, there, all)) below j i low;
}

pub turned_of : (ls ms first second turned : List (List ℕ)) → first ≡ ls → second ≡ ms → AreTurned first (length second) turned → AreTurned ls (length ms) turned
turned_of ls ms first second turned e f are = subst (λ (xs : List (List ℕ)). AreTurned ls (length xs) turned) f (subst (λ (xs : List (List ℕ)). AreTurned xs (length second) turned) e are)

-- a graph whose lists are turned round has its edges turned round
pub turned_edges : (g h : GraphView) → AreTurned g.sets (length g.takes) h.takes → AreTurned g.lists (length g.sets) h.lists → AreTurned g.takes (length g.lists) h.sets → (i j : ℕ) → IsEdge h i j ↔ IsEdge g j i
turned_edges g h takes lists sets i j = (
  λ e.
      (let node : i < length g.takes = (let low = listed_within h.takes i e.list e.takes in let same = takes.len in omega (arith, low, same)) in
      let set : e.list < length g.sets = (let low = listed_within h.lists e.list e.set e.lists in let same = lists.len in omega (arith, low, same)) in
      let list : e.set < length g.lists = (let low = listed_within h.sets e.set j e.has in let same = sets.len in omega (arith, low, same)) in
      record {
        list = e.set;
        set = e.list;
        takes = (sets.each j e.set list).0 e.has;
        lists = (lists.each e.set e.list set).0 e.lists;
        has = (takes.each e.list i node).0 e.takes;
        node = node;
      }),
  λ e. record {
    list = e.set;
    set = e.list;
    takes = (takes.each e.set i e.node).1 e.has;
    lists = (lists.each e.list e.set (listed_within g.sets e.set i e.has)).1 e.lists;
    has = (sets.each j e.list (listed_within g.lists e.list e.set e.lists)).1 e.takes;
    node = (let low = listed_within g.takes j e.list e.takes in let same = takes.len in omega (arith, low, same));
  },
)
