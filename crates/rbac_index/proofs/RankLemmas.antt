-- ranks: labels with their places are passed in the order of the labels
use Rattle.std.proofs.Common.{◌≡◌, ◌≢◌, ◌∙◌, ℕ, ◌+◌, ◌<◌, ◌≤◌, List, [], ◌∷◌, ◌++◌, length, get_or, ap, sym, refl, subst, Contains, inl, inr, arith, slice_get, slice_index, slice_set, false, All, Any}
use Rattle.std.specs.Prelude.{Some, None}
use Rattle.std.specs.Cmp.{IsTotalOrder}
use Rattle.std.specs.Ordering.{is_lt, ordering_reverse}
use Rattle.std.specs.List.Sorted.{IsSorted, IsPermutation, IsStrictlySortedBy}
use Rattle.std.specs.declared.cmp.Ordering.{Ordering}
use Rattle.std.specs.declared.cmp.Ordering.TheVariants.{Less, Equal, Greater}
use Rattle.std.proofs.Math.ListN.{get_or-append}
use Rattle.std.proofs.lemmas.Bool.{cases_eq, cases_lt}
use Rattle.std.proofs.lemmas.Cmp.{nat_list_cmp_total, on_total}
use Rattle.std.proofs.lemmas.List.{length-append, length-set, get_or_at, get_or-set_same, get_or-set_other}
use Rattle.std.proofs.lemmas.List.Elements.{All-push, All-get_or, Contains-append_left, Contains-push_cases, Contains-get_or}
use Rattle.std.proofs.lemmas.List.Quantifiers.{Any-push}
use Rattle.std.proofs.lemmas.List.Sorted.{All-permutation, Contains-permutation, ranks_by, sorted_far}
use Rattle.std.proofs.lemmas.Map.Keys.{sorted_from_all_adjacent}
use Rattle.std.proofs.lemmas.Map.Lookups.{exact_bytes}
use Rattle.std.proofs.lemmas.Option.{same_Some, slice_get-get_or, slice_get_within, get_or_from_slice_get}
use Rattle.rbac_terms.specs.Text.{Text, text_cmp}
use Rattle.rbac_index.specs.declared.ranks.Placed.{Placed}
use Rattle.rbac_index.specs.Ranks.{AreRanks, ArePlaced, IsRankAfter, placed_cmp, placed_label}

pub placed_total : IsTotalOrder placed_cmp
placed_total = on_total (λ (x : Placed). (placed_label x)) nat_list_cmp_total

-- the first of the keys, with their places
pub record ArePlacedBelow (keys : List Text) (n : ℕ) (placed : List Placed) : Type 0 where
  pub each : All (λ p. slice_get keys p.place ≡ Some (placed_label p)) placed
  pub all : (i : ℕ) → i < n → Any (λ p. p.place ≡ i) placed

pub placed_more : (keys : List Text) (n : ℕ) (placed : List Placed) (p : Placed) → ArePlacedBelow keys n placed → p.place ≡ n → slice_get keys p.place ≡ Some (placed_label p) → ArePlacedBelow keys (n + 1) (placed ++ p ∷ [])
placed_more keys n placed p are here reads = record {
  each = All-push (λ q. slice_get keys q.place ≡ Some (placed_label q)) placed p are.each reads;
  all = λ i lt. elim (cases_eq i n) [
    | inl e ↦ Any-push (λ q. q.place ≡ i) placed p (here ∙ sym e)
    | inr ne ↦
        let any = are.all i (omega arith) in
        let w = Contains-append_left placed (p ∷ []) any.1 (any.0, any.2, any.3) in
        (w.0, any.1, w.1, w.2, any.4)
  ];
}

pub placed_all : (keys : List Text) (n : ℕ) (placed sorted : List Placed) → length keys ≤ n → ArePlacedBelow keys n placed → IsPermutation placed sorted → ArePlaced keys sorted
placed_all keys n placed sorted le are moved = record {
  each = All-permutation (λ p. slice_get keys p.place ≡ Some (placed_label p)) placed sorted moved are.each;
  all = λ i lt.
      let any = are.all i (omega arith) in
      let w = Contains-permutation placed sorted any.1 moved (any.0, any.2, any.3) in
      (w.0, any.1, w.1, w.2, any.4);
}

-- the first n of the sorted keys have their ranks
pub record AreRanked (keys : List Text) (sorted : List Placed) (n : ℕ) (ranks : List ℕ) (rank : ℕ) (last : Text) : Type 0 where
  pub once : List Text
  pub adjacent : (k : ℕ) → k + 1 < length once → text_cmp (get_or once k []) (get_or once (k + 1) []) ≡ Less
  pub among : (key : Text) → Contains once key → Contains keys key
  pub count : length once ≡ rank + 1
  pub end : slice_get once rank ≡ Some last
  pub as_many : length ranks ≡ length keys
  pub done : (k : ℕ) (p : Placed) → k < n → slice_get sorted k ≡ Some p → slice_get once (slice_index ranks p.place) ≡ Some (placed_label p)
  pub ahead : (k : ℕ) (p : Placed) → n ≤ k → slice_get sorted k ≡ Some p → is_lt (text_cmp (placed_label p) last) ≡ false

module _ (keys : List Text) (sorted : List Placed) (are : ArePlaced keys sorted) where
  reads : (k : ℕ) (p : Placed) → slice_get sorted k ≡ Some p → slice_get keys p.place ≡ Some (placed_label p)
  reads k p at =
      let within = slice_get_within sorted k p at in
      subst (λ (q : Placed). slice_get keys q.place ≡ Some (placed_label q)) (get_or_from_slice_get sorted k p p at) (All-get_or (λ q. slice_get keys q.place ≡ Some (placed_label q)) sorted k p within are.each)

  pub placed_within : (k : ℕ) (p : Placed) → slice_get sorted k ≡ Some p → p.place < length keys
  placed_within k p at = slice_get_within keys p.place (placed_label p) (reads k p at)

  among_keys : (k : ℕ) (p : Placed) → slice_get sorted k ≡ Some p → Contains keys (placed_label p)
  among_keys k p at =
      subst (Contains keys) (get_or_from_slice_get keys p.place (placed_label p) [] (reads k p at)) (Contains-get_or keys p.place [] (placed_within k p at))

module _ (keys : List Text) (sorted : List Placed) (are : ArePlaced keys sorted) (up : IsSorted placed_cmp sorted) where
  no_less : (i j : ℕ) (p q : Placed) → i ≤ j → slice_get sorted i ≡ Some p → slice_get sorted j ≡ Some q → is_lt (text_cmp (placed_label q) (placed_label p)) ≡ false
  no_less i j p q le at there =
      let far = sorted_far (λ x y. is_lt (placed_cmp x y)) (ranks_by placed_total (λ (y : Placed). y)) sorted up i j p le (slice_get_within sorted j q there) in
      rw (get_or_from_slice_get sorted i p p at, get_or_from_slice_get sorted j q p there) at far

  pub ranked_none : (least : Placed) (ranks : List ℕ) → slice_get sorted 0 ≡ Some least → length ranks ≡ length keys → AreRanked keys sorted 0 ranks 0 (placed_label least)
  ranked_none least ranks at many = record {
    once = (placed_label least) ∷ [];
    adjacent = λ k lt. absurd (omega arith);
    among = λ key w. elim (Contains-push_cases [] (placed_label least) key w) [
      | inl o ↦ absurd (omega (arith, o.1))
      | inr e ↦ subst (Contains keys) e (among_keys keys sorted are 0 least at)
    ];
    count = refl;
    end = refl;
    as_many = many;
    done = λ k p lt is. absurd (omega arith);
    ahead = λ k p le is. no_less 0 k least p (omega arith) at is;
  }

  -- the rank that is written stays right for what has the same place
  kept : (n : ℕ) (p : Placed) (once : List Text) (ranks : List ℕ) (next : ℕ) → slice_get sorted n ≡ Some p → length ranks ≡ length keys → slice_get once next ≡ Some (placed_label p)
      → ((k : ℕ) (q : Placed) → k < n → slice_get sorted k ≡ Some q → slice_get once (slice_index ranks q.place) ≡ Some (placed_label q))
      → (k : ℕ) (q : Placed) → k < n + 1 → slice_get sorted k ≡ Some q → slice_get once (slice_index (slice_set ranks p.place next) q.place) ≡ Some (placed_label q)
  kept n p once ranks next at many is before k q lt there =
      let low : p.place < length ranks = omega (arith, many, placed_within keys sorted are n p at) in
      elim (cases_eq q.place p.place) [
        | inl e ↦
            let same : Some (placed_label p) ≡ Some (placed_label q) = sym (reads keys sorted are n p at) ∙ ap (slice_get keys) (sym e) ∙ reads keys sorted are k q there in
            rw (e, get_or-set_same ranks p.place next 0 low) (is ∙ same)
        | inr ne ↦
            let earlier : k < n = elim (cases_lt k n) [
              | inl l ↦ l
              | inr l ↦
                  let here : k ≡ n = omega arith in
                  let one : q ≡ p = same_Some q p (sym there ∙ ap (slice_get sorted) here ∙ at) in
                  absurd (ne (ap (λ (x : Placed). x.place) one))
            ] in
            rw (get_or-set_other ranks p.place q.place next 0 ne) (before k q earlier there)
      ]

  -- what is no less and another is greater
  greater : (x y : Text) → x ≢ y → is_lt (text_cmp y x) ≡ false → text_cmp x y ≡ Less
  greater x y apart none = by (text_cmp y x) refl none
    where
      by : (o : Ordering) → text_cmp y x ≡ o → is_lt o ≡ false → text_cmp x y ≡ Less
      by Less e f = cc
      by Equal e f = absurd (apart (sym (exact_bytes y x e)))
      by Greater e f = nat_list_cmp_total.antisymm x y ∙ ap ordering_reverse e

  pub ranked_more : (n : ℕ) (p : Placed) (ranks : List ℕ) (rank next : ℕ) (last : Text) → slice_get sorted n ≡ Some p → IsRankAfter rank last (placed_label p) next → AreRanked keys sorted n ranks rank last → AreRanked keys sorted (n + 1) (slice_set ranks p.place next) next (placed_label p)
  ranked_more n p ranks rank next last at (inl same) r =
      let end : slice_get r.once next ≡ Some (placed_label p) = rw same.1 (r.end ∙ ap Some same.0) in record {
        once = r.once;
        adjacent = r.adjacent;
        among = r.among;
        count = omega (arith, r.count, same.1);
        end = end;
        as_many = length-set ranks p.place next ∙ r.as_many;
        done = kept n p r.once ranks next at r.as_many end r.done;
        ahead = λ k q le there. no_less n k p q (omega arith) at there;
      }
  ranked_more n p ranks rank next last at (inr apart) r =
      let key = (placed_label p) in
      let once = r.once ++ key ∷ [] in
      let place : length r.once ≡ next = r.count ∙ sym apart.1 in
      let more : length once ≡ next + 1 = omega (arith, length-append r.once (key ∷ []), place) in
      let read : get_or once next [] ≡ key = get_or_at r.once key [] [] next place in
      let end : slice_get once next ≡ Some key = slice_get-get_or once next [] (omega (arith, more)) ∙ ap Some read in
      let grown : (k : ℕ) (x : Text) → slice_get r.once k ≡ Some x → slice_get once k ≡ Some x = λ k x is.
      let within = slice_get_within r.once k x is in
      slice_get-get_or once k [] (omega (arith, within, more, place)) ∙ ap Some (get_or-append r.once (key ∷ []) [] k within ∙ get_or_from_slice_get r.once k x [] is) in
      record {
        once = once;
        adjacent = λ k lt. elim (cases_lt (k + 1) (length r.once)) [
          | inl l ↦ rw (get_or-append r.once (key ∷ []) [] k (omega arith), get_or-append r.once (key ∷ []) [] (k + 1) l) (r.adjacent k l)
          | inr l ↦
              let here : k + 1 ≡ next = omega (arith, more, place) in
              let before : k ≡ rank = omega (arith, here, apart.1) in
              let was : get_or once k [] ≡ last = get_or-append r.once (key ∷ []) [] k (omega (arith, here, place)) ∙ ap (λ (i : ℕ). get_or r.once i []) before ∙ get_or_from_slice_get r.once rank last [] r.end in
              rw (was, here, read) (greater last key apart.0 (r.ahead n p (omega arith) at))
        ];
        among = λ x w. elim (Contains-push_cases r.once key x w) [
          | inl o ↦ r.among x o
          | inr e ↦ subst (Contains keys) e (among_keys keys sorted are n p at)
        ];
        count = more;
        end = end;
        as_many = length-set ranks p.place next ∙ r.as_many;
        done = kept n p once ranks next at r.as_many end (λ k q lt there. grown (slice_index ranks q.place) (placed_label q) (r.done k q lt there));
        ahead = λ k q le there. no_less n k p q (omega arith) at there;
      }

  -- the key at a place is among the sorted ones
  sorted_at : (i : ℕ) (key : Text) → slice_get keys i ≡ Some key → (k : ℕ) × (p : Placed) × (slice_get sorted k ≡ Some p) × (p.place ≡ i) × ((placed_label p) ≡ key)
  sorted_at i key is =
      let any = are.all i (slice_get_within keys i key is) in
      let there : slice_get sorted any.0 ≡ Some any.1 = slice_get-get_or sorted any.0 any.1 any.2 ∙ ap Some any.3 in
      (any.0, any.1, there, any.4, same_Some (placed_label any.1) key (sym (reads keys sorted are any.0 any.1 there) ∙ ap (slice_get keys) any.4 ∙ is))

  pub ranked_all : (n : ℕ) (ranks : List ℕ) (rank : ℕ) (last : Text) → length sorted ≤ n → AreRanked keys sorted n ranks rank last → AreRanks keys ranks
  ranked_all n ranks rank last le r =
      let places : (i : ℕ) (key : Text) → slice_get keys i ≡ Some key → slice_get r.once (slice_index ranks i) ≡ Some key = λ i key is.
      let (k, p, there, place, same) = sorted_at i key is in
      let at = r.done k p (omega (arith, le, slice_get_within sorted k p there)) there in
      ap (λ (j : ℕ). slice_get r.once (slice_index ranks j)) (sym place) ∙ at ∙ ap Some same in
      record {
        once = r.once;
        each = record {
          ascending = sorted_from_all_adjacent nat_list_cmp_total r.once [] r.adjacent;
          same = λ key. (
            r.among key,
            λ w.
                let is : slice_get keys w.0 ≡ Some key = slice_get-get_or keys w.0 key w.1 ∙ ap Some w.2 in
                let at = places w.0 key is in
                let within = slice_get_within r.once (slice_index ranks w.0) key at in
                subst (Contains r.once) (get_or_from_slice_get r.once (slice_index ranks w.0) key [] at) (Contains-get_or r.once (slice_index ranks w.0) [] within),
          );
        };
        as_many = r.as_many;
        places = places;
      }

-- no keys
pub ranks_none : (keys : List Text) (sorted : List Placed) (ranks : List ℕ) → slice_get sorted 0 ≡ None → ArePlaced keys sorted → length ranks ≡ length keys → AreRanks keys ranks
unfolding IsStrictlySortedBy
ranks_none [] sorted ranks none are many = record {
  once = [];
  each = record { ascending = tt; same = λ key. (λ w. w, λ w. w) };
  as_many = many;
  places = λ i key is. absurd (grind (arith, is));
}
ranks_none (x ∷ xs) sorted ranks none are many =
    let any = are.all 0 (omega arith) in
    let some : slice_get sorted 0 ≡ Some (get_or sorted 0 any.1) = slice_get-get_or sorted 0 any.1 (omega (arith, any.2)) in
    absurd (grind (arith, none, some))
