-- a reach, target by target
use Rattle.std.proofs.Common.{◌≡◌, ℕ, suc, zero, ◌+◌, ◌-◌, ◌<◌, ◌≤◌, List, [], ◌∷◌, ◌++◌, length, get_or, slice_get, arith, inl, inr, subst, sym, ◌∙◌, ap, Contains, append_assoc, append-nil}
use Rattle.std.specs.Prelude.{Some}
use Rattle.std.specs.List.Sorted.{IsStrictlyIncreasing}
use Rattle.std.proofs.lemmas.Bool.{cases_lt}
use Rattle.std.proofs.lemmas.Grind.{common_steps}
use Rattle.std.proofs.lemmas.List.{length-append}
use Rattle.std.proofs.lemmas.List.Elements.{Contains-append_left, Contains-get_or, Contains-push, Contains-push_cases}
use Rattle.std.proofs.lemmas.Option.{same_Some, slice_get_within, slice_get-get_or}
use Rattle.rbac_terms.specs.Targets.{What}
use Rattle.rbac_terms.specs.Matching.{TargetOk}
use Rattle.rbac_terms.specs.declared.matching.Rule.{Rule}
use Rattle.rbac_reaches.specs.Reaches.{MatchesAt, IsReach, IsReachBelow}
use Rattle.rbac_reaches.specs.Spans.{places_from}

ascending_push : (places : List ℕ) (n : ℕ) → IsStrictlyIncreasing places → ((u : ℕ) → Contains places u → u < n) → IsStrictlyIncreasing (places ++ n ∷ [])
ascending_push places n up below k lt = elim (cases_lt (k + 1) (length places)) [
  | inl inside ↦ (let step : get_or places k 0 < get_or places (k + 1) 0 = up k inside in grind (arith, common_steps))
  | inr last ↦ (let small : get_or places k 0 < n = below (get_or places k 0) (Contains-get_or places k 0 (grind (arith, common_steps))) in grind (arith, common_steps))
]

module _ (r : Rule) (ts : List What) (count : ℕ) (places : List ℕ) (t : What) (there : slice_get ts count ≡ Some t) (h : IsReachBelow r ts count places) where
  pub reach_taken : TargetOk r t → IsReachBelow r ts (count + 1) (places ++ count ∷ [])
  reach_taken ok = record {
    ascending = ascending_push places count h.ascending (λ u has. ((h.exact u).0 has).0);
    exact = λ n. (
      λ has. elim (Contains-push_cases places count n has) [
        | inl old ↦ let w = (h.exact n).0 old in (omega (arith, w.0), w.1)
        | inr new ↦ (let less : count < count + 1 = omega arith in rw (← new) (less, (t, there, ok)))
      ],
      λ w. elim (cases_lt n count) [
        | inl old ↦ Contains-append_left places (count ∷ []) n ((h.exact n).1 (old, w.1))
        | inr new ↦ (let same : n ≡ count = omega (arith, w.0) in rw same (Contains-push places count))
      ],
    );
    short = omega (arith, h.short, length-append places (count ∷ []));
  }

-- places where nothing matches are passed over
pub reach_skip : (r : Rule) (ts : List What) (from to : ℕ) (places : List ℕ) → from ≤ to → ((n : ℕ) → from ≤ n → n < to → ¬ MatchesAt r ts n) → IsReachBelow r ts from places → IsReachBelow r ts to places
reach_skip r ts from to places le none h = record {
  ascending = h.ascending;
  exact = λ n. (
    λ has. let w = (h.exact n).0 has in (omega (arith, le, w.0), w.1),
    λ w. elim (cases_lt n from) [
      | inl old ↦ (h.exact n).1 (old, w.1)
      | inr new ↦ absurd (none n new w.0 w.1)
    ],
  );
  short = omega (arith, le, h.short);
}

-- places where all match are taken
pub reach_take : (r : Rule) (ts : List What) (count start : ℕ) (places : List ℕ) → ((n : ℕ) → start ≤ n → n < start + count → MatchesAt r ts n) → IsReachBelow r ts start places → IsReachBelow r ts (start + count) (places ++ places_from start count)
reach_take r ts zero start places all h = let same : start + 0 ≡ start = omega arith in rw (append-nil places, same) h
reach_take r ts (suc count) start places all h =
    let m = all start (omega arith) (omega arith) in
    let one = reach_taken r ts start places m.0 m.1 h m.2 in
    let rest = reach_take r ts count (start + 1) (places ++ start ∷ []) (λ n low high. all n (omega (arith, low)) (omega (arith, high))) one in
    let same : start + 1 + count ≡ start + suc count = omega arith in
    rw (← append_assoc places (start ∷ []) (places_from (start + 1) count), ← same) rest

-- and up to an end
pub reach_up_to : (r : Rule) (ts : List What) (start end : ℕ) (places : List ℕ) → start ≤ end → ((n : ℕ) → start ≤ n → n < end → MatchesAt r ts n) → IsReachBelow r ts start places → IsReachBelow r ts end (places ++ places_from start (end - start))
reach_up_to r ts start end places le all h =
    let last : start + (end - start) ≡ end = omega (arith, le) in
    subst (λ (n : ℕ). IsReachBelow r ts n (places ++ places_from start (end - start))) last (reach_take r ts (end - start) start places (λ n low high. all n low (omega (arith, high, le))) h)

pub reach_one : (r : Rule) (ts : List What) (at : ℕ) (places : List ℕ) → MatchesAt r ts at → IsReachBelow r ts at places → IsReachBelow r ts (at + 1) (places ++ places_from at (at + 1 - at))
reach_one r ts at places m h = reach_up_to r ts at (at + 1) places (omega arith) (λ n low high. let same : at ≡ n = omega (arith, low, high) in subst (MatchesAt r ts) same m) h

pub reach_all : (r : Rule) (ts : List What) (count : ℕ) (places : List ℕ) → length ts ≤ count → IsReachBelow r ts count places → IsReach r ts places
reach_all r ts count places all h = record {
  ascending = h.ascending;
  exact = λ n. (λ has. ((h.exact n).0 has).1, λ w. (h.exact n).1 (omega (arith, all, slice_get_within ts n w.0 w.1), w));
}

module _ (r : Rule) (ts : List What) (at : ℕ) (t : What) (within : at < length ts) (is : t ≡ get_or ts at t) where
  there : slice_get ts at ≡ Some t
  there = slice_get-get_or ts at t within ∙ ap (λ (x : What). Some x) (sym is)

  pub matches_here : TargetOk r t → MatchesAt r ts at
  matches_here ok = (t, there, ok)

  pub fails_here : ¬ TargetOk r t → MatchesAt r ts at → ⊥
  fails_here bad m = bad (subst (TargetOk r) (same_Some m.0 t (sym m.1 ∙ there)) m.2)
