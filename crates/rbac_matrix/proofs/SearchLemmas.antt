-- searches in ascending lists
use Rattle.std.proofs.Common.{◌≡◌, ℕ, zero, suc, ◌+◌, ◌<◌, ◌≤◌, List, [], ◌∷◌, length, get_or, map, take, drop, false, Contains, Less, Equal, Greater, Ordering, refl, ap, ◌∙◌, sym, arith, subst, inl, inr}
use Rattle.std.specs.Prelude.{Some, Ok, Err, Result, IfOk, IfErr, slice_get}
use Rattle.std.specs.List.Sorted.{IsBinarySearchResult, IsNonDecreasingBy, IsPartitionPoint, IsSearchInRange}
use Rattle.std.specs.Ordering.{ordering_index, ordering_reverse}
use Rattle.std.specs.Cmp.{IsTotalOrder}
use Rattle.std.proofs.lemmas.Bool.{cases_lt}
use Rattle.std.proofs.lemmas.Option.{same_Some, slice_get-get_or, get_or_from_slice_get, slice_get_within}
use Rattle.rbac_terms.specs.Text.{Text, text_cmp}
use Rattle.rbac_model.specs.Lists.{IsAscendingBy}
use Rattle.rbac_matrix.proofs.Orders.{not_greater, not_less, not_tied}
use Rattle.std.proofs.lemmas.Cmp.{tied_itself}
use Rattle.std.proofs.lemmas.List.{take-append-drop}
use Rattle.std.proofs.lemmas.List.Elements.{Contains-append_cases}
use Rattle.std.specs.Cmp.Lexicographic.{slice_cmp}
use Rattle.std.proofs.lemmas.List.{get_or-map, length-map}
use Rattle.rbac_terms.specs.Targets.{What}
use Rattle.rbac_terms.specs.Keys.{KeyTexts}
use Rattle.rbac_terms.proofs.Cases.{by_ordering}
use Rattle.rbac_terms.proofs.Orderings.{less_alone}
use Rattle.rbac_terms.proofs.Reading.{read_some}
use Rattle.rbac_model.specs.Universes.{UniverseView, IsUniverse, Listed}
use Rattle.rbac_universe.proofs.Flattened.{map_contains}
use Rattle.rbac_reaches.specs.Matched.{what_texts}
use Rattle.rbac_matrix.specs.Starting.{IsFoundAt, IsGapAt, IsTargetPlace, target_part, whats}

index_few : (o : Ordering) → ordering_index o ≤ 2
index_few Less = omega arith
index_few Equal = omega arith
index_few Greater = omega arith

-- the elements of a prefix of a list, and those after it
pub in_take : {X : Type 0} (xs : List X) (n : ℕ) (x : X) → Contains (take n xs) x → (j : ℕ) × (j < n) × (slice_get xs j ≡ Some x)
in_take xs zero x w = absurd (omega (arith, w.1))
in_take [] (suc n) x w = absurd (omega (arith, w.1))
in_take (y ∷ xs) (suc n) x (zero, lt, e) = (0, omega arith, ap (λ v. Some v) e)
in_take (y ∷ xs) (suc n) x (suc k, lt, e) = let r = in_take xs n x (k, omega arith, e) in (suc r.0, omega (arith, r.1), r.2)

pub in_drop : {X : Type 0} (xs : List X) (n : ℕ) (x : X) → Contains (drop n xs) x → (j : ℕ) × (n ≤ j) × (slice_get xs j ≡ Some x)
in_drop xs zero x w = (w.0, omega arith, slice_get-get_or xs w.0 x w.1 ∙ ap (λ v. Some v) w.2)
in_drop [] (suc n) x w = absurd (omega (arith, w.1))
in_drop (y ∷ xs) (suc n) x w = let r = in_drop xs n x w in (suc r.0, omega (arith, r.1), r.2)

pub take_in : {X : Type 0} (xs : List X) (n j : ℕ) (x : X) → j < n → slice_get xs j ≡ Some x → Contains (take n xs) x
take_in xs zero j x lt at = absurd (omega arith)
take_in [] (suc n) j x lt at = cc
take_in (y ∷ xs) (suc n) zero x lt at = (0, omega arith, same_Some y x at)
take_in (y ∷ xs) (suc n) (suc j) x lt at = let r = take_in xs n j x (omega arith) at in (suc r.0, omega (arith, r.1), r.2)

pub drop_in : {X : Type 0} (xs : List X) (n j : ℕ) (x : X) → n ≤ j → slice_get xs j ≡ Some x → Contains (drop n xs) x
drop_in xs zero j x le at = (j, slice_get_within xs j x at, get_or_from_slice_get xs j x x at)
drop_in [] (suc n) j x le at = cc
drop_in (y ∷ xs) (suc n) zero x le at = absurd (omega arith)
drop_in (y ∷ xs) (suc n) (suc j) x le at = drop_in xs n j x (omega arith) at

pub map_drop : {X Y : Type 0} (f : X → Y) (n : ℕ) (xs : List X) → drop n (map f xs) ≡ map f (drop n xs)
map_drop f zero xs = refl
map_drop f (suc n) [] = refl
map_drop f (suc n) (x ∷ xs) = map_drop f n xs

pub map_take : {X Y : Type 0} (f : X → Y) (n : ℕ) (xs : List X) → take n (map f xs) ≡ map f (take n xs)
map_take f zero xs = refl
map_take f (suc n) [] = refl
map_take f (suc n) (x ∷ xs) = ap (λ l. f x ∷ l) (map_take f n xs)

module _ {X K : Type 0} (cmp : K → K → Ordering) (total : IsTotalOrder cmp) (name : X → K) (xs : List X) (up : (i j : ℕ) (d : X) → i < j → j < length xs → cmp (name (get_or xs i d)) (name (get_or xs j d)) ≡ Less) (t : K) where
  rises_at : (a b : K) → cmp a b ≡ Less → ordering_index (cmp a t) ≤ ordering_index (cmp b t)
  rises_at a b l = by_ordering (cmp b t)
      (λ e. let f : ordering_index (cmp a t) ≡ 0 = ap ordering_index (total.trans a b t l e) in omega arith)
      (λ e.
      let f : cmp a t ≡ Less = total.antisymm a t ∙ ap ordering_reverse (sym (total.congr b t a e) ∙ (total.antisymm b a ∙ ap ordering_reverse l)) in
      let g : ordering_index (cmp a t) ≡ 0 = ap ordering_index f in omega arith)
      (λ e. let f : ordering_index (cmp b t) ≡ 2 = ap ordering_index e in omega (arith, index_few (cmp a t)))

  -- the elements compare to t in rising order: less, equal, greater
  pub rises : IsNonDecreasingBy (λ x. ordering_index (cmp (name x) t)) xs
  rises i j d le lt = elim (cases_lt i j) [
    | inl less ↦ rises_at (name (get_or xs i d)) (name (get_or xs j d)) (up i j d less lt)
    | inr ge ↦ let same : i ≡ j = omega arith in rw same (omega arith)
  ]

  pub found_at : (i : ℕ) (x : X) → slice_get xs i ≡ Some x → cmp (name x) t ≡ Equal → IsFoundAt cmp name xs t i
  found_at i x at tie = record {
    here = (x, at, tie);
    below = λ y w.
        let r = in_take xs i y w in
        let less : cmp (name y) (name x) ≡ Less = rw (get_or_from_slice_get xs r.0 y x r.2, get_or_from_slice_get xs i x x at) at (up r.0 i x r.1 (slice_get_within xs i x at)) in
        total.antisymm (name y) t ∙ ap ordering_reverse (sym (total.congr (name x) t (name y) tie) ∙ (total.antisymm (name x) (name y) ∙ ap ordering_reverse less));
    above = λ y w.
        let r = in_drop xs (i + 1) y w in
        let less : cmp (name x) (name y) ≡ Less = rw (get_or_from_slice_get xs i x x at, get_or_from_slice_get xs r.0 y x r.2) at (up i r.0 x (omega (arith, r.1)) (slice_get_within xs r.0 y r.2)) in
        total.antisymm (name y) t ∙ ap ordering_reverse (sym (total.congr (name x) t (name y) tie) ∙ less);
  }

  pub gap_at : (i : ℕ) → i ≤ length xs → IsPartitionPoint (λ y. cmp (name y) t ≡ Less) (λ y. cmp (name y) t ≡ Greater) xs i → IsGapAt cmp name xs t i
  gap_at i within parted = record {
    within = within;
    below = λ y w. let r = in_take xs i y w in rw (get_or_from_slice_get xs r.0 y y r.2) at (parted.0 r.0 y (omega arith) r.1);
    above = λ y w. let r = in_drop xs i y w in rw (get_or_from_slice_get xs r.0 y y r.2) at (parted.1 r.0 y r.1 (slice_get_within xs r.0 y r.2));
  }

  pub place_from : (r : Result ℕ ℕ) → IsSearchInRange r (length xs) → IsBinarySearchResult (λ y. cmp (name y) t) xs r → IfOk r (IsFoundAt cmp name xs t) × IfErr r (IsGapAt cmp name xs t)
  place_from (Ok i) lt at = let x = read_some xs i lt in (found_at i x.0 x.1 (rw (get_or_from_slice_get xs i x.0 x.0 x.1) at (at x.0)), tt)
  place_from (Err i) le at = (tt, gap_at i le (at rises))

  -- if t has a gap, no element is equal to t
  pub gap_absent : (i : ℕ) → IsGapAt cmp name xs t i → (x : X) → Contains xs x → name x ≡ t → ⊥
  gap_absent i g x w e =
      let tie : cmp (name x) t ≡ Equal = ap (λ (k : K). cmp k t) e ∙ tied_itself total t in
      elim (Contains-append_cases (take i xs) (drop i xs) x (subst (λ (l : List X). Contains l x) (sym (take-append-drop i xs)) w)) [
        | inl v ↦ not_less _ (g.below x v) tie
        | inr v ↦ not_tied _ tie (g.above x v)
      ]

  -- only the element that was found is equal to t
  pub found_alone : (i : ℕ) → IsFoundAt cmp name xs t i → (j : ℕ) (x : X) → slice_get xs j ≡ Some x → name x ≡ t → j ≡ i
  found_alone i f j x at e =
      let tie : cmp (name x) t ≡ Equal = ap (λ (k : K). cmp k t) e ∙ tied_itself total t in
      elim (cases_lt j i) [
        | inl lt ↦ absurd (not_less _ (f.below x (take_in xs i j x lt at)) tie)
        | inr ge ↦ elim (cases_lt i j) [
          | inl gt ↦ absurd (not_tied _ tie (f.above x (drop_in xs (i + 1) j x (omega arith) at)))
          | inr le ↦ omega arith
        ]
      ]

-- lists in order of one text
pub by_text : {X : Type 0} (name : X → Text) (xs : List X) → IsAscendingBy (λ x. name x ∷ []) xs → (i j : ℕ) (d : X) → i < j → j < length xs → text_cmp (name (get_or xs i d)) (name (get_or xs j d)) ≡ Less
by_text name xs up i j d lt l = less_alone (text_cmp (name (get_or xs i d)) (name (get_or xs j d))) (up i j d lt l)

-- ---- the targets of a universe

module _ (u : UniverseView) (is : IsUniverse u) (k : KeyTexts) where
  pub whats_up : (i j : ℕ) (d : What) → i < j → j < length (whats u) → slice_cmp text_cmp (what_texts (get_or (whats u) i d)) (what_texts (get_or (whats u) j d)) ≡ Less
  whats_up i j d lt l =
      let n : length (whats u) ≡ length u.targets = length-map u.targets (λ (t : Listed). t.0) in
      let a : get_or (whats u) i d ≡ (get_or u.targets i (d, false)).0 = get_or-map (λ (t : Listed). t.0) u.targets i (d, false) d (omega arith) in
      let b : get_or (whats u) j d ≡ (get_or u.targets j (d, false)).0 = get_or-map (λ (t : Listed). t.0) u.targets j (d, false) d (omega arith) in
      rw (a, b) (is.targets i j (d, false) lt (omega arith))

  in_whats : (n : ℕ) (t : Listed) → Contains (drop n u.targets) t → Contains (drop n (whats u)) t.0
  in_whats n t w = rw (map_drop (λ (x : Listed). x.0) n u.targets) (map_contains (λ (x : Listed). x.0) (drop n u.targets) t w)

  in_prefix : (n : ℕ) (t : Listed) → Contains (take n u.targets) t → Contains (take n (whats u)) t.0
  in_prefix n t w = rw (map_take (λ (x : Listed). x.0) n u.targets) (map_contains (λ (x : Listed). x.0) (take n u.targets) t w)

  pub target_gap : (i : ℕ) → IsGapAt (slice_cmp text_cmp) what_texts (whats u) (target_part k) i → IsTargetPlace u k i
  target_gap i g = record {
    within = omega (arith, g.within, length-map u.targets (λ (t : Listed). t.0));
    below = λ t w. not_greater _ (g.below t.0 (in_prefix i t w));
    above = λ t w. g.above t.0 (in_whats i t w);
  }

  pub target_found : (i : ℕ) → IsFoundAt (slice_cmp text_cmp) what_texts (whats u) (target_part k) i → IsTargetPlace u k (i + 1)
  target_found i f = record {
    within = omega (arith, slice_get_within (whats u) i f.here.0 f.here.1, length-map u.targets (λ (t : Listed). t.0));
    below = λ t w.
        let r = in_take (whats u) (i + 1) t.0 (in_prefix (i + 1) t w) in
        elim (cases_lt r.0 i) [
          | inl lt ↦ not_greater _ (f.below t.0 (take_in (whats u) i r.0 t.0 lt r.2))
          | inr ge ↦
              let e : r.0 ≡ i = omega (arith, r.1) in
              let same : f.here.0 ≡ t.0 = same_Some f.here.0 t.0 (sym f.here.1 ∙ (rw e at r.2)) in
              not_tied _ (rw same at f.here.2)
        ];
    above = λ t w. f.above t.0 (in_whats (i + 1) t w);
  }
