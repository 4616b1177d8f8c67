-- seats, one by one and all together
use Rattle.std.proofs.Common.{◌≡◌, ◌≢◌, ℕ, suc, ◌+◌, ◌<◌, ◌≤◌, List, [], ◌∷◌, length, get_or, set, sum_by, min, refl, ◌∙◌, sym, arith, below_more, get_or-set_other, get_or-set_same, inl, inr, subst, length-set}
use Rattle.std.proofs.lemmas.List.{get_or_default, get_or_past}
use Rattle.std.proofs.lemmas.List.Sums.{sum_by-cons, sum_by-set}
use Rattle.std.proofs.lemmas.Bool.{cases_lt, cases_eq}
use Rattle.std.specs.List.Sorted.{IsStrictlyIncreasing}
use Rattle.rbac_model.specs.Policies.{PolicyView}
use Rattle.rbac_reaches.specs.Reaches.{raised}
use Rattle.rbac_matrix.specs.declared.seat.Seat.{Seat}
use Rattle.rbac_matrix.specs.Seats.{IsSeated, IsSeatedBefore, AreEmpty, Costs, SeatCosts, ReadsAtMost, IsFirstFrom, empty_seat, no_seat, filled, passed, past_all, seat_at, stand_of, standing}
use Rattle.rbac_matrix.proofs.SeekLemmas.{ascends, raised-raised}

-- the seat that moves on from its entry is at the first entry past that place
pub seated_after : (r : List ℕ) (old new : Seat) → IsStrictlyIncreasing r → IsSeated r old.place old → old.place < past_all → new.position ≡ old.position + 1 → new.place ≡ get_or r new.position past_all → old.position < length r → IsSeated r (old.place + 1) new
seated_after r old new up h real moved read within =
    let here : get_or r old.position past_all ≡ get_or r old.position 0 = get_or_default r old.position past_all 0 within in
    let now : get_or r old.position 0 ≡ old.place = sym here ∙ sym h.place in
    record {
      within = omega arith;
      place = read;
      passed = rw moved (below_more _ _ (λ k lt. omega (arith, h.passed k lt)) (omega arith));
      ahead = elim (cases_lt new.position (length r)) [
        | inl lt ↦
            let later : get_or r old.position 0 < get_or r new.position 0 = ascends r up old.position new.position (omega arith) lt in
            let there : get_or r new.position past_all ≡ get_or r new.position 0 = get_or_default r new.position past_all 0 lt in
            omega arith
        | inr ge ↦ let there : get_or r new.position past_all ≡ past_all = get_or_past r new.position past_all ge in omega arith
      ];
    }

-- a seat at an entry is within its reach
pub stands_within : (r : List ℕ) (from : ℕ) (seat : Seat) → IsSeated r from seat → seat.place < past_all → seat.position < length r
stands_within r from seat h real = elim (cases_lt seat.position (length r)) [
  | inl lt ↦ lt
  | inr ge ↦ absurd (let e : get_or r seat.position past_all ≡ past_all = get_or_past r seat.position past_all ge in omega (arith, h.place))
]

-- a seat that isn't at the place has no entry there, so it is seated past it too
pub seated_stays : (r : List ℕ) (place : ℕ) (seat : Seat) → IsSeated r place seat → seat.place ≢ place → IsSeated r (place + 1) seat
seated_stays r place seat h ne = record {
  within = h.within;
  place = h.place;
  passed = λ k lt. omega (arith, h.passed k lt);
  ahead = let low = h.ahead in omega arith;
}

-- a seat is at the first entry from its own place on
pub seated_here : (r : List ℕ) (place : ℕ) (seat : Seat) → IsSeatedBefore r place seat → IsSeated r seat.place seat
seated_here r place seat (from, le, h) = record {
  within = h.within;
  place = h.place;
  passed = λ k lt. omega (arith, h.passed k lt, h.ahead);
  ahead = omega arith;
}

-- a seat that isn't before a place is at the first entry from that place on
pub seated_before : (r : List ℕ) (place : ℕ) (seat : Seat) → IsSeatedBefore r place seat → place ≤ seat.place → IsSeated r place seat
seated_before r place seat (from, le, h) ahead = record {
  within = h.within;
  place = h.place;
  passed = λ k lt. omega (arith, h.passed k lt);
  ahead = ahead;
}

pub seated_first : (r : List ℕ) (from position : ℕ) (seat : Seat) → IsFirstFrom r from position → from ≤ past_all → seat.position ≡ position → seat.place ≡ get_or r position past_all → IsSeated r from seat
seated_first r from position seat h top at place = record {
  within = omega (arith, h.within);
  place = rw at place;
  passed = rw at h.before;
  ahead = elim (cases_lt position (length r)) [
    | inl lt ↦ let same : get_or r position past_all ≡ get_or r position 0 = get_or_default r position past_all 0 lt in omega (arith, h.after position (omega arith) lt)
    | inr ge ↦ let past : get_or r position past_all ≡ past_all = get_or_past r position past_all ge in omega arith
  ];
}

-- the cost of seating a grant in an empty seat
pub start_costs : (r : List ℕ) (seat : Seat) (position limit before middle after : ℕ) → ((i : ℕ) → i < length r → get_or r i 0 < past_all) → ReadsAtMost limit before middle → seat.position ≡ position → seat.place ≡ get_or r position past_all → (position < length r → after ≡ raised middle 1) → (length r ≤ position → after ≡ middle) → SeatCosts limit 0 empty_seat seat before after
start_costs r seat position limit before middle after real h at place read unread = elim (cases_lt position (length r)) [
  | inl lt ↦
      let e : get_or r position past_all ≡ get_or r position 0 = get_or_default r position past_all 0 lt in
      record { total = h.total + 1; meter = rw (← raised-raised, ← h.meter) (read lt); low = omega arith; high = omega (arith, h.most, real position lt) }
  | inr ge ↦
      let e : get_or r position past_all ≡ past_all = get_or_past r position past_all ge in
      record { total = h.total; meter = unread ge ∙ h.meter; low = omega arith; high = omega (arith, h.most) }
]

pub none_read : (limit m : ℕ) → ReadsAtMost limit m m
none_read limit m = record { total = 0; most = omega arith; meter = omega arith }

-- the cost of moving a seat on
pub next_costs : (r : List ℕ) (old new : Seat) (before after : ℕ) → old.place < past_all → new.position ≡ old.position + 1 → new.place ≡ get_or r new.position past_all → (new.position < length r → after ≡ raised before 1) → (length r ≤ new.position → after ≡ before) → ((i : ℕ) → i < length r → get_or r i 0 < past_all) → SeatCosts 0 1 old new before after
next_costs r old new before after stood at place read unread real = elim (cases_lt new.position (length r)) [
  | inl lt ↦
      let e : get_or r new.position past_all ≡ get_or r new.position 0 = get_or_default r new.position past_all 0 lt in
      record { total = 1; meter = read lt; low = omega arith; high = omega (arith, real new.position lt) }
  | inr ge ↦
      let e : get_or r new.position past_all ≡ past_all = get_or_past r new.position past_all ge in
      record { total = 0; meter = omega (arith, unread ge); low = omega arith; high = omega arith }
]

-- the cost of two steps, one after the other
pub seat_costs_then : (a b c : Seat) (gain m m' m'' : ℕ) → SeatCosts 0 0 a b m m' → SeatCosts 0 gain b c m' m'' → SeatCosts 0 0 a c m m''
seat_costs_then a b c gain m m' m'' p q = record {
  total = p.total + q.total;
  meter = rw (← raised-raised, ← p.meter) q.meter;
  low = omega (arith, p.low, q.low);
  high = omega (arith, p.high, q.high);
}

pub seat_costs_none : (seat : Seat) (m : ℕ) → SeatCosts 0 0 seat seat m m
seat_costs_none seat m = record { total = 0; meter = omega arith; low = omega arith; high = omega arith }

-- one seat is replaced
module _ (seats : List Seat) (k : ℕ) (s : Seat) (h : k < length seats) where
  pub set_each : (Q : ℕ → Seat → Type 0) → ((j : ℕ) → j < length seats → j ≢ k → Q j (seat_at seats j)) → Q k s → (j : ℕ) → j < length (set seats k s) → Q j (seat_at (set seats k s) j)
  set_each Q others here j lt = elim (cases_eq j k) [
    | inl e ↦ subst (λ (i : ℕ). Q i (seat_at (set seats k s) i)) (sym e) (rw get_or-set_same here)
    | inr ne ↦ rw get_or-set_other (others j (omega (arith, length-set seats k s)) ne)
  ]

  pub passed_set : passed (set seats k s) + (seat_at seats k).position ≡ passed seats + s.position
  unfolding passed
  passed_set = sum_by-set (λ (x : Seat). x.position) seats k s no_seat h

  pub standing_set : standing (set seats k s) + stand_of (seat_at seats k) ≡ standing seats + stand_of s
  unfolding standing
  standing_set = sum_by-set stand_of seats k s no_seat h

  pub filled_set : filled (set seats k s) + min 1 ((seat_at seats k).position + stand_of (seat_at seats k)) ≡ filled seats + min 1 (s.position + stand_of s)
  unfolding filled
  filled_set = sum_by-set (λ (x : Seat). min 1 (x.position + stand_of x)) seats k s no_seat h

  pub Costs-set : (old : List Seat) (limit gain l g m m' m'' : ℕ) → Costs limit gain old seats m m' → SeatCosts l g (seat_at seats k) s m' m'' → Costs (limit + l) (gain + g) old (set seats k s) m m''
  Costs-set old limit gain l g m m' m'' a b = record {
    total = a.total + b.total;
    meter = rw (← raised-raised, ← a.meter) b.meter;
    low = omega (arith, a.low, b.low, standing_set);
    high = omega (arith, a.high, b.high, standing_set, passed_set);
  }

-- if no seat changes, the cost is 0
pub Costs-none : (seats : List Seat) (m : ℕ) → Costs 0 0 seats seats m m
Costs-none seats m = record { total = 0; meter = omega arith; low = omega arith; high = omega arith }

pub Costs-then : (a b c : List Seat) (l g l' g' m m' m'' : ℕ) → Costs l g a b m m' → Costs l' g' b c m' m'' → Costs (l + l') (g + g') a c m m''
Costs-then a b c l g l' g' m m' m'' p q = record {
  total = p.total + q.total;
  meter = rw (← raised-raised, ← p.meter) q.meter;
  low = omega (arith, p.low, q.low);
  high = omega (arith, p.high, q.high);
}

-- a sum of zeros
sum_none : (f : Seat → ℕ) (seats : List Seat) → ((k : ℕ) → k < length seats → f (seat_at seats k) ≡ 0) → sum_by f seats ≡ 0
sum_none f [] h = refl
sum_none f (s ∷ seats) h =
    let here : f s ≡ 0 = h 0 (omega arith) in
    let rest : sum_by f seats ≡ 0 = sum_none f seats (λ k lt. h (suc k) (omega arith)) in
    rw (here, rest) refl

pub empty_standing : (p : PolicyView) (seats : List Seat) → AreEmpty p seats → standing seats ≡ 0
unfolding standing
empty_standing p seats h = sum_none stand_of seats (λ k lt. rw (h.each k lt) refl)

pub empty_passed : (p : PolicyView) (seats : List Seat) → AreEmpty p seats → passed seats ≡ 0
unfolding passed
empty_passed p seats h = sum_none (λ (s : Seat). s.position) seats (λ k lt. rw (h.each k lt) refl)

pub empty_filled : (p : PolicyView) (seats : List Seat) → AreEmpty p seats → filled seats ≡ 0
unfolding filled
empty_filled p seats h = sum_none (λ (s : Seat). min 1 (s.position + stand_of s)) seats (λ k lt. rw (h.each k lt) refl)

le_more : (a b n : ℕ) → a ≤ 1 → b ≤ n → a + b ≤ suc n
le_more a b n h k = omega arith

-- a sum of ones and zeros
sum_few : (f : Seat → ℕ) → ((s : Seat) → f s ≤ 1) → (seats : List Seat) → sum_by f seats ≤ length seats
sum_few f one [] = omega arith
sum_few f one (s ∷ seats) =
    let rest : sum_by f seats ≤ length seats = sum_few f one seats in
    let here = one s in
    rw (sum_by-cons f s seats) (le_more (f s) (sum_by f seats) (length seats) here rest)

-- no more seats are filled than there are
pub filled_few : (seats : List Seat) → filled seats ≤ length seats
unfolding filled
filled_few seats = sum_few (λ (s : Seat). min 1 (s.position + stand_of s)) (λ s. omega arith) seats

-- the cost of a step that left entries behind is also that of a step that left none
pub Costs-less : (limit gain : ℕ) (old new : List Seat) (before after : ℕ) → Costs limit gain old new before after → Costs limit 0 old new before after
Costs-less limit gain old new before after h = record { total = h.total; meter = h.meter; low = omega (arith, h.low); high = h.high }
