-- how many entries the reaches of a line's cursors have
use Rattle.std.proofs.Common.{◌≡◌, ℕ, suc, ◌+◌, ◌-◌, ◌*◌, ◌<◌, ◌≤◌, ◌⊎◌, List, [], ◌∷◌, ◌++◌, length, get_or, map, sum_by, refl, ap, ◌∙◌, sym, arith, subst, inl, inr, append_assoc}
use Rattle.std.specs.Prelude.{Some, slice_get}
use Rattle.std.specs.List.{flat_map}
use Rattle.std.specs.List.Sorted.{IsStrictlyIncreasing}
use Rattle.std.proofs.lemmas.Bool.{cases_lt, cases_eq}
use Rattle.std.proofs.lemmas.List.Sums.{sum_by-cons}
use Rattle.std.proofs.lemmas.List.Elements.{Contains-get_or}
use Rattle.std.proofs.lemmas.Option.{same_Some}
use Rattle.rbac_terms.specs.Matching.{TargetOk}
use Rattle.rbac_terms.proofs.Reading.{read_some}
use Rattle.rbac_model.specs.Lists.{IsCount}
use Rattle.rbac_model.specs.Policies.{PolicyView, IsPolicy, GrantView}
use Rattle.rbac_model.specs.Universes.{UniverseView, IsUniverse, Listed, IsCursor, AreTouches}
use Rattle.rbac_matrix.specs.Lines.{LineView, lines_from}
use Rattle.rbac_matrix.specs.Cursors.{IsCursorAt}
use Rattle.rbac_reaches.specs.Reaches.{AreReaches}
use Rattle.rbac_matrix.specs.Metering.{AreTouched, IsMetered}
use Rattle.rbac_matrix.specs.declared.line.Place.{Place}
use Rattle.rbac_matrix.specs.declared.seat.Seat.{Seat}
use Rattle.rbac_matrix.specs.Seats.{AreEmpty, AreSeated, Costs, IsSeated, passed, past_all, reach_at, seat_at, stand_of, standing, start_at}
use Rattle.rbac_matrix.proofs.SeekLemmas.{ascends, raised-raised}
use Rattle.rbac_matrix.proofs.SeatLemmas.{empty_passed, empty_standing, stands_within}
use Rattle.rbac_matrix.proofs.LineLemmas.{in_matches, place_within, reach_up}

-- ---- counts

count_split : {X : Type 0} (P : X → Type 0) (xs ys : List X) (n : ℕ) → IsCount P (xs ++ ys) n → (a : ℕ) × (b : ℕ) × IsCount P xs a × IsCount P ys b × (n ≡ a + b)
count_split P [] ys n h = (0, n, refl, h, omega arith)
count_split P (x ∷ xs) ys n (inl h) =
    let r = count_split P xs ys h.1.0 h.1.2 in
    (r.0 + 1, r.1, inl (h.0, (r.0, refl, r.2)), r.3, omega (arith, h.1.1, r.4))
count_split P (x ∷ xs) ys n (inr h) =
    let r = count_split P xs ys n h.1 in
    (r.0, r.1, inr (h.0, r.2), r.3, r.4)

count_map : {X Y : Type 0} (P : Y → Type 0) (f : X → Y) (xs : List X) (n : ℕ) → IsCount P (map f xs) n → IsCount (λ x. P (f x)) xs n
count_map P f [] n h = h
count_map P f (x ∷ xs) n (inl h) = inl (h.0, (h.1.0, h.1.1, count_map P f xs h.1.0 h.1.2))
count_map P f (x ∷ xs) n (inr h) = inr (h.0, count_map P f xs n h.1)

tail_up : (x : ℕ) (r : List ℕ) → IsStrictlyIncreasing (x ∷ r) → IsStrictlyIncreasing r
tail_up x r up k lt = let e : k + 1 ≡ suc k = omega arith in rw e (ascends (x ∷ r) up (suc k) (suc (suc k)) (omega arith) (omega arith))

-- ascending places of elements with the property are no more than the elements with the property
places_few : {X : Type 0} (P : X → Type 0) (xs : List X) (from : ℕ) (r : List ℕ) (n : ℕ) → IsStrictlyIncreasing r
    → ((i : ℕ) → i < length r → (from ≤ get_or r i 0) × ((x : X) × (slice_get xs (get_or r i 0 - from) ≡ Some x) × P x)) → IsCount P xs n → length r ≤ n
places_few P xs from [] n up at h = omega arith
places_few P [] from (u ∷ r) n up at h = absurd (let first = at 0 (omega arith) in cc)
places_few P (x ∷ xs) from (u ∷ r) n up at h = elim (cases_eq u from) [
  | inl e ↦
      let first = at 0 (omega arith) in
      let zero_at : u - from ≡ 0 = omega arith in
      let here : x ≡ first.1.0 = same_Some x first.1.0 (rw zero_at at first.1.1) in
      elim h [
        | inl has ↦
            let rest = places_few P xs (from + 1) r has.1.0 (tail_up u r up)
            (λ i lt.
            let later : u < get_or r i 0 = ascends (u ∷ r) up 0 (suc i) (omega arith) (omega arith) in
            let known = at (suc i) (omega arith) in
            let step : get_or r i 0 - from ≡ suc (get_or r i 0 - (from + 1)) = omega arith in
            (omega arith, (known.1.0, rw step at known.1.1, known.1.2)))
            has.1.2 in
            omega (arith, has.1.1)
        | inr lacks ↦ absurd (lacks.0 (subst P (sym here) first.1.2))
      ]
  | inr ne ↦
      let low : from ≤ u = (at 0 (omega arith)).0 in
      let moved : (i : ℕ) → i < length (u ∷ r) → (from + 1 ≤ get_or (u ∷ r) i 0) × ((y : _) × (slice_get xs (get_or (u ∷ r) i 0 - (from + 1)) ≡ Some y) × P y) = λ i lt.
      let known = at i lt in
      let above : from < get_or (u ∷ r) i 0 = elim (cases_lt 0 i) [
        | inl some ↦ omega (arith, ascends (u ∷ r) up 0 i some lt)
        | inr none ↦ let e : i ≡ 0 = omega arith in rw e (omega arith)
      ] in
      let step : get_or (u ∷ r) i 0 - from ≡ suc (get_or (u ∷ r) i 0 - (from + 1)) = omega arith in
      (omega arith, (known.1.0, rw step at known.1.1, known.1.2)) in
      elim h [
        | inl has ↦ let rest = places_few P xs (from + 1) (u ∷ r) has.1.0 up moved has.1.2 in omega (arith, has.1.1)
        | inr lacks ↦ places_few P xs (from + 1) (u ∷ r) n up moved lacks.1
      ]
]

-- ---- no more entries are read for seats than their reaches have

abbrev pub read_of : Seat → ℕ
read_of s = s.position + stand_of s

sum_both : {X : Type 0} (f g : X → ℕ) (xs : List X) → sum_by f xs + sum_by g xs ≡ sum_by (λ x. f x + g x) xs
sum_both f g [] = refl
sum_both f g (x ∷ xs) =
    let rest = sum_both f g xs in
    rw (sum_by-cons f x xs, sum_by-cons g x xs, sum_by-cons (λ y. f y + g y) x xs) (omega arith)

both_sums : (seats : List Seat) → passed seats + standing seats ≡ sum_by read_of seats
unfolding passed standing
both_sums seats = sum_both (λ (s : Seat). s.position) stand_of seats

sums_few : {X Y : Type 0} (P : Y → Type 0) (row : X → List Y) (gs : List X) (seats : List Seat) (n : ℕ) → length seats ≤ length gs
    → ((k : ℕ) → k < length seats → (read_of (seat_at seats k) ≡ 0) ⊎ ((g : X) × (slice_get gs k ≡ Some g) × ((m : ℕ) → IsCount P (row g) m → read_of (seat_at seats k) ≤ m)))
    → IsCount P (flat_map row gs) n → sum_by read_of seats ≤ n
sums_few P row gs [] n le each h = omega arith
sums_few P row [] (s ∷ seats) n le each h = absurd (omega arith)
sums_few P row (g ∷ gs) (s ∷ seats) n le each h =
    let split = count_split P (row g) (flat_map row gs) n h in
    let rest : sum_by read_of seats ≤ split.1 = sums_few P row gs seats split.1 (omega arith) (λ k lt. each (suc k) (omega arith)) split.3 in
    let here : read_of s ≤ split.0 = elim (each 0 (omega arith)) [
      | inl none ↦ omega arith
      | inr some ↦
          let same : g ≡ some.0 = same_Some g some.0 some.1 in
          some.2 split.0 (subst (λ (x : _). IsCount P (row x) split.0) same split.2)
    ] in
    rw (sum_by-cons read_of s seats) (omega (arith, split.4))

module _ (p : PolicyView) (u : UniverseView) (rs : List (List ℕ)) (l : LineView) (policy : IsPolicy p) (is : IsUniverse u) (reaches : AreReaches p u rs) where
  abbrev Touches : GrantView × Listed → Type 0
  Touches pair = IsCursor l.who l.namespace l.verb pair.0 × TargetOk pair.0.rule.rule pair.1.0

  -- a cursor's reach has no more places than the cursor has touches
  reach_few : (k : ℕ) (c : IsCursorAt p l k) (m : ℕ) → IsCount Touches (map (λ (t : Listed). (c.grant, t)) u.targets) m → length (reach_at rs k) ≤ m
  reach_few k c m h =
      places_few (λ (t : Listed). Touches (c.grant, t)) u.targets 0 (reach_at rs k) m (reach_up p u rs l policy is reaches k c)
      (λ i lt.
      let w = Contains-get_or (reach_at rs k) i 0 lt in
      let within = place_within p u rs l policy is reaches k (get_or (reach_at rs k) i 0) c w in
      let t = read_some u.targets (get_or (reach_at rs k) i 0) within in
      let e : get_or (reach_at rs k) i 0 - 0 ≡ get_or (reach_at rs k) i 0 = omega arith in
      (omega arith, (t.0, rw e t.1, (c.is, in_matches p u rs l policy is reaches k (get_or (reach_at rs k) i 0) t.0 c t.1 w))))
      (count_map Touches (λ (t : Listed). (c.grant, t)) u.targets m h)

  seat_few : (from : ℕ) (s : Seat) (r : List ℕ) → IsSeated r from s → read_of s ≤ length r
  seat_few from s r h = elim (cases_lt s.place past_all) [
    | inl real ↦ omega (arith, stands_within r from s h real)
    | inr past ↦ omega (arith, h.within)
  ]

  pub reads_few : (from upto : ℕ) (seats : List Seat) (n : ℕ) → AreSeated p l rs from upto seats → AreTouches p u l.who l.namespace l.verb n → passed seats + standing seats ≤ n
  reads_few from upto seats n seated h =
      rw (both_sums seats) (sums_few Touches (λ (g : GrantView). map (λ (t : Listed). (g, t)) u.targets) p.grants seats n (omega (arith, seated.count))
      (λ k lt. elim (seated.each k lt) [
        | inl s ↦ inr (s.0.grant, s.0.at, λ m count. let a = reach_few k s.0 m count in let b = seat_few (start_at from upto k) (seat_at seats k) (reach_at rs k) s.1 in omega arith)
        | inr e ↦ inl (rw e.1 refl)
      ]) h)

-- ---- the meter's bounds in an enumeration

pub touched_split : (p : PolicyView) (u : UniverseView) (xs ys : List LineView) (n : ℕ) → AreTouched p u (xs ++ ys) n → (a : ℕ) × (b : ℕ) × AreTouched p u xs a × AreTouched p u ys b × (n ≡ a + b)
touched_split p u [] ys n h = (0, n, refl, h, omega arith)
touched_split p u (x ∷ xs) ys n h =
    let r = touched_split p u xs ys h.1 h.3 in
    (h.0 + r.0, r.1, (h.0, r.0, h.2, r.2, refl), r.3, omega (arith, h.4, r.4))

module _ (p : PolicyView) (u : UniverseView) (start : Place) (sought : ℕ) where
  pub metered_start : (seats old : List Seat) (m : ℕ) → AreEmpty p old → Costs (20 * sought) 0 old seats 0 m → IsMetered p u start sought start seats 0 m
  metered_start seats old m empty h =
      let a = empty_passed p old empty in
      let b = empty_standing p old empty in
      record {
        total = h.total;
        meter = h.meter;
        low = omega (arith, h.low);
        behind = [];
        whole = refl;
        high = λ n touched. omega (arith, h.high);
      }

  pub metered_more : (at : Place) (old seats : List Seat) (given gain m m' : ℕ) → IsMetered p u start sought at old given m → Costs 0 gain old seats m m' → IsMetered p u start sought at seats (given + gain) m'
  metered_more at old seats given gain m m' h c = record {
    total = h.total + c.total;
    meter = rw (← raised-raised, ← h.meter) c.meter;
    low = omega (arith, h.low, c.low);
    behind = h.behind;
    whole = h.whole;
    high = λ n touched. omega (arith, h.high n touched, c.high);
  }

  pub metered_on : (at : Place) (old seats : List Seat) (given m m' : ℕ) → IsMetered p u start sought at old given m → Costs 0 0 old seats m m' → IsMetered p u start sought at seats given m'
  metered_on at old seats given m m' h c = let same : given + 0 ≡ given = omega arith in rw same at (metered_more at old seats given 0 m m' h c)

  -- lines are passed, with any seats, and nothing is read
  pub metered_skip : (at to : Place) (seats : List Seat) (given m : ℕ) (between : List LineView) → lines_from u at ≡ between ++ lines_from u to → IsMetered p u start sought at seats given m → IsMetered p u start sought to seats given m
  metered_skip at to seats given m between e h = record {
    total = h.total;
    meter = h.meter;
    low = h.low;
    behind = h.behind ++ between;
    whole = h.whole ∙ ap (λ (ls : List LineView). h.behind ++ ls) e ∙ sym (append_assoc h.behind between (lines_from u to));
    high = λ n touched.
        let split = touched_split p u h.behind between n touched in
        omega (arith, h.high split.0 split.2, split.4);
  }

  -- a line is left, and its seats are emptied
  pub metered_end : (rs : List (List ℕ)) (at to : Place) (l : LineView) (from upto : ℕ) (seats empty : List Seat) (given m : ℕ) → IsPolicy p → IsUniverse u → AreReaches p u rs → lines_from u at ≡ l ∷ lines_from u to → AreSeated p l rs from upto seats → AreEmpty p empty → IsMetered p u start sought at seats given m → IsMetered p u start sought to empty given m
  metered_end rs at to l from upto seats empty given m policy is reaches e seated none h =
      let a = empty_passed p empty none in
      let b = empty_standing p empty none in
      record {
        total = h.total;
        meter = h.meter;
        low = omega (arith, h.low);
        behind = h.behind ++ l ∷ [];
        whole = h.whole ∙ ap (λ (ls : List LineView). h.behind ++ ls) e ∙ sym (append_assoc h.behind (l ∷ []) (lines_from u to));
        high = λ n touched.
            let split = touched_split p u h.behind (l ∷ []) n touched in
            let few = reads_few p u rs l policy is reaches from upto seats split.3.0 seated split.3.2 in
            omega (arith, h.high split.0 split.2, split.4, split.3.4);
      }
