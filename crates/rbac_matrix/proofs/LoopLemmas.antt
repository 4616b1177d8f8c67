-- how the walk along a line's cursors seats them
use Rattle.std.proofs.Common.{◌≡◌, ◌≢◌, ℕ, ◌+◌, ◌*◌, ◌<◌, ◌≤◌, ◌⊎◌, List, [], ◌∷◌, length, get_or, set, refl, ◌∙◌, sym, arith, inl, inr, subst, length-set}
use Rattle.std.proofs.lemmas.Bool.{cases_lt, cases_eq}
use Rattle.std.proofs.lemmas.List.{get_or_default}
use Rattle.std.proofs.lemmas.Option.{slice_get_within}
use Rattle.rbac_model.specs.Policies.{PolicyView}
use Rattle.rbac_matrix.specs.Lines.{LineView}
use Rattle.rbac_matrix.specs.Cursors.{IsAhead, IsCursorAt}
use Rattle.rbac_matrix.specs.declared.walk.Walk.{Walk}
use Rattle.rbac_matrix.specs.declared.seat.Seat.{Seat}
use Rattle.rbac_matrix.specs.Seats.{IsSeated, AreEmpty, Costs, SeatCosts, empty_seat, filled, past_all, reach_at, seat_at, stand_of, start_at}
use Rattle.rbac_matrix.proofs.SeatLemmas.{Costs-none, Costs-set, filled_set, set_each, empty_filled, filled_few}

pub cursor_within : (p : PolicyView) (l : LineView) (k : ℕ) → IsCursorAt p l k → k < length p.grants
cursor_within p l k c = slice_get_within p.grants k c.grant c.at

-- the seat is a cursor's, at its first entry from `from` on; or it is empty, and if it is a
-- cursor's, the walk is still to come to it
abbrev pub IsTakenAt : PolicyView → LineView → List (List ℕ) → ℕ → Walk → ℕ → Seat → Type 0
IsTakenAt p l rs from w k s = (IsCursorAt p l k × IsSeated (reach_at rs k) (start_at from 0 k) s) ⊎ ((s ≡ empty_seat) × (IsCursorAt p l k → IsAhead p l w k))

-- some of the cursors are seated, and the walk is still to come to the others
pub record AreTaken (p : PolicyView) (l : LineView) (rs : List (List ℕ)) (from : ℕ) (w : Walk) (n : ℕ) (old seats : List Seat) (before after : ℕ) : Type 0 where
  pub count : length seats ≡ length p.grants
  pub each : (k : ℕ) → k < length seats → IsTakenAt p l rs from w k (seat_at seats k)
  pub is_filled : n ≡ filled seats
  pub few : n ≤ length p.grants
  pub started : from ≡ 0 → Costs 0 0 old seats before after
  pub sought : Costs (20 * n) 0 old seats before after

-- with no grants below `upto`, the remaining entries begin at `from`
plain : (r : List ℕ) (from k : ℕ) (s : Seat) → IsSeated r from s → IsSeated r (start_at from 0 k) s
plain r from k s h = let e : start_at from 0 k ≡ from = omega arith in rw e h

no_places : (r : List ℕ) (from : ℕ) → length r ≤ 0 → from ≤ past_all → IsSeated r from empty_seat
no_places [] from h top = record { within = omega arith; place = refl; passed = λ k lt. absurd (omega arith); ahead = top }
no_places (x ∷ r) from h top = absurd (omega arith)

-- a seat in a reach that has entries isn't empty
stands : (r : List ℕ) (from : ℕ) (s : Seat) → 0 < length r → ((i : ℕ) → i < length r → get_or r i 0 < past_all) → IsSeated r from s → 0 < s.position + stand_of s
stands r from s some real seated = elim (cases_lt 0 s.position) [
  | inl lt ↦ omega arith
  | inr ge ↦
      let e : s.position ≡ 0 = omega arith in
      let at : s.place ≡ get_or r 0 past_all = rw e at seated.place in
      let first : get_or r 0 past_all ≡ get_or r 0 0 = get_or_default r 0 past_all 0 some in
      omega (arith, real 0 some)
]

one_more : (seats : List Seat) (k : ℕ) (s : Seat) (n : ℕ) → k < length seats → seat_at seats k ≡ empty_seat → 0 < s.position + stand_of s → n ≡ filled seats → n + 1 ≡ filled (set seats k s)
one_more seats k s n lt e some is =
    let both = rw e at (filled_set seats k s lt) in
    omega (arith, both)

module _ (p : PolicyView) (l : LineView) (rs : List (List ℕ)) (from : ℕ) where
  pub taken_start : (w : Walk) (seats : List Seat) (m : ℕ) → AreEmpty p seats → ((k : ℕ) → IsCursorAt p l k → IsAhead p l w k) → AreTaken p l rs from w 0 seats seats m m
  taken_start w seats m empty ahead = record {
    count = empty.count;
    each = λ k lt. inr (empty.each k lt, ahead k);
    is_filled = sym (empty_filled p seats empty);
    few = omega arith;
    started = λ _. Costs-none seats m;
    sought = Costs-none seats m;
  }

  module _ (w v : Walk) (n : ℕ) (old seats : List Seat) (before m : ℕ) (h : AreTaken p l rs from w n old seats before m) (k : ℕ) (cursor : IsCursorAt p l k) (on : (j : ℕ) → IsAhead p l w j → (j ≡ k) ⊎ IsAhead p l v j) where
    pub taken_within : k < length seats
    taken_within = omega (arith, cursor_within p l k cursor, h.count)

    taken_other : (j : ℕ) → j ≢ k → (x : Seat) → IsTakenAt p l rs from w j x → IsTakenAt p l rs from v j x
    taken_other j ne x (inl s) = inl s
    taken_other j ne x (inr (e, ahead)) = inr (
      e,
      λ c. elim (on j (ahead c)) [
        | inl same ↦ absurd (ne same)
        | inr later ↦ later
      ],
    )

    -- nothing changes if the seat was taken before, or its reach has no entries
    pub taken_keep : (r : List ℕ) → r ≡ reach_at rs k → from ≤ past_all → ((seat_at seats k ≡ empty_seat) × (0 < length r) → ⊥) → AreTaken p l rs from v n old seats before m
    taken_keep r is top kept = record {
      count = h.count;
      each = λ j lt. elim (cases_eq j k) [
        | inl e ↦ subst (λ (i : ℕ). IsTakenAt p l rs from v i (seat_at seats i)) (sym e)
            (inl (
              cursor,
              elim (h.each k taken_within) [
                | inl s ↦ s.1
                | inr empty ↦ plain (reach_at rs k) from k (seat_at seats k) (rw (empty.0, ← is) (no_places r from (elim (cases_lt 0 (length r)) [
                  | inl some ↦ absurd (kept (empty.0, some))
                  | inr none ↦ none
                ]) top))
              ],
            ))
        | inr ne ↦ taken_other j ne (seat_at seats j) (h.each j lt)
      ];
      is_filled = h.is_filled;
      few = h.few;
      started = h.started;
      sought = h.sought;
    }

    pub taken_more : (r : List ℕ) (s : Seat) (m' : ℕ) → r ≡ reach_at rs k → (seat_at seats k ≡ empty_seat) × (0 < length r) → ((i : ℕ) → i < length r → get_or r i 0 < past_all) → IsSeated r from s → (from ≡ 0 → SeatCosts 0 0 empty_seat s m m') → SeatCosts 20 0 empty_seat s m m' → AreTaken p l rs from v (n + 1) old (set seats k s) before m'
    taken_more r s m' is empty real seated started sought =
        let now : n + 1 ≡ filled (set seats k s) = one_more seats k s n taken_within empty.0 (stands r from s empty.1 real seated) h.is_filled in
        let few : filled (set seats k s) ≤ length (set seats k s) = filled_few (set seats k s) in
        let both : Costs (20 * n + 20) 0 old (set seats k s) before m' = Costs-set seats k s taken_within old (20 * n) 0 20 0 before m m' h.sought (subst (λ (x : Seat). SeatCosts 20 0 x s m m') (sym empty.0) sought) in
        record {
          count = length-set seats k s ∙ h.count;
          each = set_each seats k s taken_within
              (λ j x. IsTakenAt p l rs from v j x)
              (λ j lt ne. taken_other j ne (seat_at seats j) (h.each j lt))
              (inl (cursor, plain (reach_at rs k) from k s (subst (λ (x : List ℕ). IsSeated x from s) is seated)));
          is_filled = now;
          few = omega (arith, h.count, length-set seats k s);
          started = λ e. Costs-set seats k s taken_within old 0 0 0 0 before m m' (h.started e) (subst (λ (x : Seat). SeatCosts 0 0 x s m m') (sym empty.0) (started e));
          sought = record { total = both.total; meter = both.meter; low = both.low; high = omega (arith, both.high) };
        }

-- a grant below `end` is seated past the place, and each other grant at it
pub start_past : (r : List ℕ) (place end k : ℕ) (s : Seat) → k < end → IsSeated r (place + 1) s → IsSeated r (start_at place end k) s
start_past r place end k s lt h = let e : start_at place end k ≡ place + 1 = omega arith in rw e h

pub start_here : (r : List ℕ) (place end k : ℕ) (s : Seat) → end ≤ k → IsSeated r place s → IsSeated r (start_at place end k) s
start_here r place end k s le h = let e : start_at place end k ≡ place = omega arith in rw e h

-- a seat at an entry is a cursor's
pub cursor_of_seat : (p : PolicyView) (l : LineView) (seats : List Seat) (k place : ℕ) → IsCursorAt p l k ⊎ (seat_at seats k ≡ empty_seat) → place ≡ (seat_at seats k).place → place < past_all → IsCursorAt p l k
cursor_of_seat p l seats k place (inl c) at real = c
cursor_of_seat p l seats k place (inr e) at real = let empty : (seat_at seats k).place ≡ past_all = rw e refl in absurd (omega arith)
