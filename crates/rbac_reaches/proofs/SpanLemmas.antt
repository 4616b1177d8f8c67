-- places kept as runs of neighbours
use Rattle.std.proofs.Common.{◌≡◌, ℕ, zero, suc, ◌+◌, ◌-◌, ◌<◌, ◌≤◌, List, [], ◌∷◌, ◌++◌, length, get_or, set, ap, sym, ◌∙◌, refl, arith, append_assoc, append-nil, true, false, leb, subst}
use Rattle.std.specs.List.Sorted.{IsNonDecreasingBy, IsPartitionPoint, IsStrictlyIncreasing}
use Rattle.std.proofs.lemmas.List.{length-append, get_or_append_left, get_or-append-add}
use Rattle.rbac_reaches.specs.declared.spans.Span.{Span}
use Rattle.rbac_reaches.specs.Spans.{places_from, span_places, IsCounted, AddsSpan, AreSpans}

pub from_length : (a n : ℕ) → length (places_from a n) ≡ n
from_length a zero = refl
from_length a (suc n) = let e : length (places_from (a + 1) n) ≡ n = from_length (a + 1) n in omega (arith, e)

pub from_get : (a n i d : ℕ) → i < n → get_or (places_from a n) i d ≡ a + i
from_get a zero i d lt = absurd (omega arith)
from_get a (suc n) zero d lt = omega arith
from_get a (suc n) (suc i) d lt = let e : get_or (places_from (a + 1) n) i d ≡ a + 1 + i = from_get (a + 1) n i d (omega arith) in omega (arith, e)

pub counted_length : (n : ℕ) (xs : List Span) (len : ℕ) → IsCounted n xs len → n + length (span_places xs) ≡ len
counted_length n [] len c = omega (arith, c)
counted_length n (s ∷ ss) len c =
    let rest = counted_length (n + (s.end - s.start)) ss len c.3 in
    omega (arith, rest, length-append (places_from s.start (s.end - s.start)) (span_places ss), from_length s.start (s.end - s.start))

pub places_push : (xs : List Span) (s : Span) → span_places (xs ++ s ∷ []) ≡ span_places xs ++ places_from s.start (s.end - s.start)
places_push [] s = append-nil (places_from s.start (s.end - s.start))
places_push (x ∷ xs) s = ap (λ (l : List ℕ). places_from x.start (x.end - x.start) ++ l) (places_push xs s) ∙ sym (append_assoc (places_from x.start (x.end - x.start)) (span_places xs) (places_from s.start (s.end - s.start)))

pub counted_push : (n : ℕ) (xs : List Span) (len more : ℕ) (s : Span) → IsCounted n xs len → s.before ≡ len → s.start < s.end → s.end ≤ 1000000 → more ≡ len + (s.end - s.start) → IsCounted n (xs ++ s ∷ []) more
counted_push n [] len more s c b lt top e = (b ∙ sym c, lt, top, omega (arith, e, c))
counted_push n (x ∷ xs) len more s c b lt top e = (c.0, c.1, c.2, counted_push (n + (x.end - x.start)) xs len more s c.3 b lt top e)

no_less : (n : ℕ) (xs : List Span) (len : ℕ) → IsCounted n xs len → (j : ℕ) (d : Span) → j < length xs → n ≤ (get_or xs j d).before
no_less n [] len c j d lt = absurd (omega arith)
no_less n (s ∷ ss) len c zero d lt = omega (arith, c.0)
no_less n (s ∷ ss) len c (suc j) d lt = let e = no_less (n + (s.end - s.start)) ss len c.3 j d (omega arith) in omega (arith, e)

pub befores_rise : (n : ℕ) (xs : List Span) (len : ℕ) → IsCounted n xs len → IsNonDecreasingBy (λ (s : Span). s.before) xs
befores_rise n [] len c i j d le lt = absurd (omega arith)
befores_rise n (s ∷ ss) len c zero zero d le lt = omega arith
befores_rise n (s ∷ ss) len c zero (suc j) d le lt = let e = no_less (n + (s.end - s.start)) ss len c.3 j d (omega arith) in omega (arith, e, c.0)
befores_rise n (s ∷ ss) len c (suc i) zero d le lt = absurd (omega arith)
befores_rise n (s ∷ ss) len c (suc i) (suc j) d le lt = befores_rise (n + (s.end - s.start)) ss len c.3 i j d (omega arith) (omega arith)

-- the place that stands i places behind the first, in the run whose places those are
pub place_at : (n : ℕ) (xs : List Span) (len i : ℕ) → IsCounted n xs len → n ≤ i → i < len → (k : ℕ) → k < length xs → (d : Span) (e : ℕ) → (get_or xs k d).before ≤ i → ((k + 1 < length xs) → i < (get_or xs (k + 1) d).before) → (i < (get_or xs k d).before + ((get_or xs k d).end - (get_or xs k d).start)) × (get_or (span_places xs) (i - n) e ≡ (get_or xs k d).start + (i - (get_or xs k d).before))
place_at n [] len i c low high k lt d e here next = absurd (omega arith)
place_at n (s ∷ []) len i c low high (suc k) lt d e here next = absurd (omega arith)
place_at n (s ∷ []) len i c low high zero lt d e here next =
    let size = s.end - s.start in
    let inside : i - n < size = omega (arith, c.0, c.3) in
    (omega (arith, c.0, c.3), get_or_append_left (places_from s.start size) [] e (i - n) (omega (arith, from_length s.start size, inside)) ∙ from_get s.start size (i - n) e inside ∙ ap (λ (m : ℕ). s.start + (i - m)) (sym c.0))
place_at n (s ∷ t ∷ ss) len i c low high zero lt d e here next =
    let size = s.end - s.start in
    let inside : i - n < size = omega (arith, c.0, c.3.0, next (omega arith)) in
    (omega (arith, c.0, inside), get_or_append_left (places_from s.start size) (span_places (t ∷ ss)) e (i - n) (omega (arith, from_length s.start size, inside)) ∙ from_get s.start size (i - n) e inside ∙ ap (λ (m : ℕ). s.start + (i - m)) (sym c.0))
place_at n (s ∷ t ∷ ss) len i c low high (suc k) lt d e here next =
    let size = s.end - s.start in
    let up : suc k + 1 ≡ suc (k + 1) = omega arith in
    let past : n + size ≤ i = omega (arith, no_less (n + size) (t ∷ ss) len c.3 k d (omega arith), here) in
    let rest = place_at (n + size) (t ∷ ss) len i c.3 past high k (omega arith) d e here (λ l. subst (λ (m : ℕ). i < (get_or (s ∷ t ∷ ss) m d).before) up (next (omega (arith, l)))) in
    let first : List ℕ = places_from s.start size in
    let there : i - n ≡ length first + (i - (n + size)) = omega (arith, past, from_length s.start size) in
    (rest.0, ap (λ (m : ℕ). get_or (first ++ span_places (t ∷ ss)) m e) there ∙ get_or-append-add first (span_places (t ∷ ss)) (i - (n + size)) e ∙ rest.1)

end_within : (n : ℕ) (xs : List Span) (len : ℕ) → IsCounted n xs len → (k : ℕ) (d : Span) → k < length xs → (get_or xs k d).end ≤ 1000000
end_within n [] len c k d lt = absurd (omega arith)
end_within n (s ∷ ss) len c zero d lt = c.2
end_within n (s ∷ ss) len c (suc k) d lt = end_within (n + (s.end - s.start)) ss len c.3 k d (omega arith)

at_most : (a b : ℕ) → leb a b ≡ true → a ≤ b
at_most a b e = grind arith

above : (a b : ℕ) → leb a b ≡ false → b < a
above a b e = grind arith

module _ (xs : List Span) (len i at : ℕ) (c : IsCounted 0 xs len) (within : i < len) (point : IsPartitionPoint (λ (s : Span). leb s.before i ≡ true) (λ (s : Span). leb s.before i ≡ false) xs at) (bound : at ≤ length xs) where
  pub some_before : 1 ≤ at
  some_before = first xs at c point
    where
      first : (ys : List Span) (n : ℕ) → IsCounted 0 ys len → IsPartitionPoint (λ (s : Span). leb s.before i ≡ true) (λ (s : Span). leb s.before i ≡ false) ys n → 1 ≤ n
      first [] n k p = absurd (omega (arith, k, within))
      first (s ∷ ss) zero k p = let e = above s.before i (p.1 0 s (omega arith) (omega arith)) in absurd (omega (arith, e, k.0))
      first (s ∷ ss) (suc n) k p = omega arith

  module _ (d : Span) where
    abbrev pub run : Span
    run = get_or xs (at - 1) d

    pub begun : run.before ≤ i
    begun = at_most run.before i (point.0 (at - 1) d (omega arith) (omega (arith, some_before)))

    found : (i < run.before + (run.end - run.start)) × (get_or (span_places xs) (i - 0) 0 ≡ run.start + (i - run.before))
    found =
        let last : at - 1 + 1 ≡ at = omega (arith, some_before) in
        place_at 0 xs len i c (omega arith) within (at - 1) (omega (arith, some_before, bound)) d 0 begun
        (λ l. subst (λ (m : ℕ). i < (get_or xs m d).before) (sym last) (above (get_or xs at d).before i (point.1 at d (omega arith) (omega (arith, l, some_before)))))

    pub place_small : run.start + (i - run.before) < 1000000
    place_small = omega (arith, found.0, begun, end_within 0 xs len c (at - 1) d (omega (arith, some_before, bound)))

    pub place_found : run.start + (i - run.before) ≡ get_or (span_places xs) i 0
    place_found = let same : i - 0 ≡ i = omega arith in sym found.1 ∙ ap (λ (m : ℕ). get_or (span_places xs) m 0) same

from_append : (a n m : ℕ) → places_from a (n + m) ≡ places_from a n ++ places_from (a + n) m
from_append a zero m =
    let none : zero + m ≡ m = omega arith in
    let same : a + zero ≡ a = omega arith in
    ap (places_from a) none ∙ ap (λ (b : ℕ). places_from b m) (sym same)
from_append a (suc n) m =
    let more : suc n + m ≡ suc (n + m) = omega arith in
    let same : a + 1 + n ≡ a + suc n = omega arith in
    ap (places_from a) more ∙ ap (λ (l : List ℕ). a ∷ l) (from_append (a + 1) n m ∙ ap (λ (b : ℕ). places_from (a + 1) n ++ places_from b m) same)

-- the last run is made longer
module _ (start end : ℕ) (some : start < end) (top : end ≤ 1000000) where
  counted_join : (n : ℕ) (xs : List Span) (len k : ℕ) (d : Span) → IsCounted n xs len → k + 1 ≡ length xs → d ≡ get_or xs k d → d.end ≡ start → IsCounted n (set xs k (record { start = d.start; end = end; before = d.before })) (len + (end - start))
  counted_join n [] len k d c last is e = absurd (omega (arith, last))
  counted_join n (x ∷ []) len (suc k) d c last is e = absurd (omega (arith, last))
  counted_join n (x ∷ y ∷ ys) len zero d c last is e = absurd (omega (arith, last))
  counted_join n (x ∷ []) len zero d c last is e =
      let at_start : d.start ≡ x.start = ap (λ (s : Span). s.start) is in
      let at_end : d.end ≡ x.end = ap (λ (s : Span). s.end) is in
      let at_before : d.before ≡ x.before = ap (λ (s : Span). s.before) is in
      (at_before ∙ c.0, omega (arith, at_start, at_end, e, c.1, some), top, omega (arith, at_start, at_end, e, c.1, c.3, some))
  counted_join n (x ∷ y ∷ ys) len (suc k) d c last is e = (c.0, c.1, c.2, counted_join (n + (x.end - x.start)) (y ∷ ys) len k d c.3 (omega (arith, last)) is e)

  places_join : (n : ℕ) (xs : List Span) (len k : ℕ) (d : Span) → IsCounted n xs len → k + 1 ≡ length xs → d ≡ get_or xs k d → d.end ≡ start → span_places (set xs k (record { start = d.start; end = end; before = d.before })) ≡ span_places xs ++ places_from start (end - start)
  places_join n [] len k d c last is e = absurd (omega (arith, last))
  places_join n (x ∷ []) len (suc k) d c last is e = absurd (omega (arith, last))
  places_join n (x ∷ y ∷ ys) len zero d c last is e = absurd (omega (arith, last))
  places_join n (x ∷ []) len zero d c last is e =
      let at_start : d.start ≡ x.start = ap (λ (s : Span). s.start) is in
      let at_end : d.end ≡ x.end = ap (λ (s : Span). s.end) is in
      let size : end - d.start ≡ (x.end - x.start) + (end - start) = omega (arith, at_start, at_end, e, c.1, some) in
      let behind : x.start + (x.end - x.start) ≡ start = omega (arith, at_end, e, c.1) in
      let own = places_from x.start (x.end - x.start) in
      append-nil (places_from d.start (end - d.start)) ∙ ap (λ (m : ℕ). places_from d.start m) size ∙ ap (λ (m : ℕ). places_from m ((x.end - x.start) + (end - start))) at_start ∙ from_append x.start (x.end - x.start) (end - start) ∙ ap (λ (m : ℕ). own ++ places_from m (end - start)) behind ∙ ap (λ (l : List ℕ). l ++ places_from start (end - start)) (sym (append-nil own))
  places_join n (x ∷ y ∷ ys) len (suc k) d c last is e =
      let own = places_from x.start (x.end - x.start) in
      ap (λ (l : List ℕ). own ++ l) (places_join (n + (x.end - x.start)) (y ∷ ys) len k d c.3 (omega (arith, last)) is e) ∙ sym (append_assoc own (span_places (y ∷ ys)) (places_from start (end - start)))

module _ (xs new : List Span) (span : Span) (counted : IsCounted 0 xs span.before) (some : span.start < span.end) (top : span.end ≤ 1000000) where
  pub put_behind : new ≡ xs ++ span ∷ [] → AddsSpan xs span new
  put_behind made = record {
    counted = rw made (counted_push 0 xs span.before (span.before + (span.end - span.start)) span counted refl some top refl);
    places = ap span_places made ∙ places_push xs span;
  }

  pub put_joined : (k : ℕ) (d : Span) → k + 1 ≡ length xs → d ≡ get_or xs k d → d.end ≡ span.start → new ≡ set xs k (record { start = d.start; end = span.end; before = d.before }) → AddsSpan xs span new
  put_joined k d last is e made = record {
    counted = rw made (counted_join span.start span.end some top 0 xs span.before k d counted last is e);
    places = ap span_places made ∙ places_join span.start span.end some top 0 xs span.before k d counted last is e;
  }

module _ (xs new : List Span) (span : Span) (shown : List ℕ) (are : AreSpans xs span.before) (is : span_places xs ≡ shown) (put : AddsSpan xs span new) where
  pub spans_shown : span_places new ≡ shown ++ places_from span.start (span.end - span.start)
  spans_shown = put.places ∙ ap (λ (l : List ℕ). l ++ places_from span.start (span.end - span.start)) is

  pub spans_pushed : IsStrictlyIncreasing (shown ++ places_from span.start (span.end - span.start)) → length shown + (span.end - span.start) ≤ 1000000 → AreSpans new (span.before + (span.end - span.start))
  spans_pushed up few = record {
    counted = put.counted;
    ascending = rw spans_shown up;
    few = omega (arith, few, counted_length 0 xs span.before are.counted, ap length is);
  }
