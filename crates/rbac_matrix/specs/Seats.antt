-- Where the seats of a line's cursors are in the cursors' reaches, and how many entries were read
-- to move them there.
use Rattle.std.specs.Prelude.{◌≡◌, ℕ, ◌+◌, ◌<◌, ◌≤◌, ◌^◌, ◌-◌, ◌⊎◌, min, List, [], length, sum_by}
use Rattle.std.specs.List.{slice_index_or}
use Rattle.rbac_model.specs.Policies.{PolicyView}
use Rattle.rbac_matrix.specs.Lines.{LineView}
use Rattle.rbac_matrix.specs.Cursors.{IsCursorAt}
use Rattle.rbac_reaches.specs.Reaches.{raised}
use Rattle.rbac_matrix.specs.declared.seat.Seat.{Seat}

-- the place of a seat that is at no entry
abbrev pub past_all : ℕ
past_all = 2 ^ 32 - 1

abbrev pub empty_seat : Seat
empty_seat = record { position = 0; place = past_all }

-- the seat is at the first entry of the reach that is at least `from`, and has that entry's place;
-- if there is no such entry, it is past the last one
pub record IsSeated (r : List ℕ) (from : ℕ) (seat : Seat) : Type 0 where
  pub within : seat.position ≤ length r
  pub place : seat.place ≡ slice_index_or r seat.position past_all
  pub passed : (k : ℕ) → k < seat.position → slice_index_or r k 0 < from
  pub ahead : from ≤ seat.place

-- for some number up to this place, the seat is at the first entry that is at least this number
abbrev pub IsSeatedBefore : List ℕ → ℕ → Seat → Type 0
IsSeatedBefore r place seat = (from : ℕ) × (from ≤ place) × IsSeated r from seat

-- the seat with that number; past the last seat, `no_seat`
abbrev pub no_seat : Seat
no_seat = record { position = 0; place = 0 }

abbrev pub seat_at : List Seat → ℕ → Seat
seat_at seats k = slice_index_or seats k no_seat

abbrev pub reach_at : List (List ℕ) → ℕ → List ℕ
reach_at rs k = slice_index_or rs k []

-- where the remaining entries of a grant begin: at place `from`, or, for the grants below `upto`,
-- at the next place
abbrev pub start_at : ℕ → ℕ → ℕ → ℕ
start_at from upto k = from + min 1 (upto - k)

-- each cursor of the line has its seat at the first of its remaining entries, and all other seats
-- are empty
pub record AreSeated (p : PolicyView) (l : LineView) (rs : List (List ℕ)) (from upto : ℕ)
    (seats : List Seat) : Type 0 where
  pub count : length seats ≡ length p.grants
  pub each : (k : ℕ) → k < length seats
      → (IsCursorAt p l k × IsSeated (reach_at rs k) (start_at from upto k) (seat_at seats k))
      ⊎ ((IsCursorAt p l k → ⊥) × (seat_at seats k ≡ empty_seat))

-- each cursor of the line has its seat at its first entry from the place on, or, if its number is
-- below `end`, at its first entry past the place; all other seats are empty
pub record AreSeatedAbout (p : PolicyView) (l : LineView) (rs : List (List ℕ)) (place end : ℕ)
    (seats : List Seat) : Type 0 where
  pub count : length seats ≡ length p.grants
  pub each : (k : ℕ) → k < length seats
      → (IsCursorAt p l k
      × (IsSeated (reach_at rs k) place (seat_at seats k)
      ⊎ ((k < end) × IsSeated (reach_at rs k) (place + 1) (seat_at seats k))))
      ⊎ ((IsCursorAt p l k → ⊥) × (seat_at seats k ≡ empty_seat))

-- each cursor of the line has its seat at its first entry from the place on, or at an entry before
-- that one; all other seats are empty
pub record AreSeatedBefore (p : PolicyView) (l : LineView) (rs : List (List ℕ)) (place : ℕ)
    (seats : List Seat) : Type 0 where
  pub count : length seats ≡ length p.grants
  pub each : (k : ℕ) → k < length seats
      → (IsCursorAt p l k × IsSeatedBefore (reach_at rs k) place (seat_at seats k))
      ⊎ ((IsCursorAt p l k → ⊥) × (seat_at seats k ≡ empty_seat))

-- as many seats as grants, all empty
pub record AreEmpty (p : PolicyView) (seats : List Seat) : Type 0 where
  pub count : length seats ≡ length p.grants
  pub each : (k : ℕ) → k < length seats → seat_at seats k ≡ empty_seat

-- no seat is at an entry
pub record ArePast (seats : List Seat) : Type 0 where
  pub each : (k : ℕ) → k < length seats → past_all ≤ (seat_at seats k).place

-- 1 if a seat is at an entry, otherwise 0
abbrev pub stand_of : Seat → ℕ
stand_of seat = min 1 (past_all - seat.place)

-- how many entries the seats have passed, and how many seats are at an entry
unfoldable pub passed : List Seat → ℕ
passed seats = sum_by (λ s. s.position) seats

unfoldable pub standing : List Seat → ℕ
standing seats = sum_by stand_of seats

-- how many seats aren't empty
unfoldable pub filled : List Seat → ℕ
filled seats = sum_by (λ s. min 1 (s.position + stand_of s)) seats

-- each entry of the reaches is less than the place of a seat that is at no entry
abbrev pub AreReal : List (List ℕ) → Type 0
AreReal rs = (k i : ℕ) → i < length (reach_at rs k) → slice_index_or (reach_at rs k) i 0 < past_all

-- the step from `old` to `new` read `total` entries: at least `gain`, which it left behind, plus
-- the increase in seats at an entry; and at most `limit` plus the number of entries that seats came
-- to
pub record Costs (limit gain : ℕ) (old new : List Seat) (before after : ℕ) : Type 0 where
  pub total : ℕ
  pub meter : after ≡ raised before total
  pub low : gain + standing new ≤ standing old + total
  pub high : total + passed old + standing old ≤ limit + passed new + standing new

-- the same bounds for a step of one seat
pub record SeatCosts (limit gain : ℕ) (old new : Seat) (before after : ℕ) : Type 0 where
  pub total : ℕ
  pub meter : after ≡ raised before total
  pub low : gain + stand_of new ≤ stand_of old + total
  pub high : total + old.position + stand_of old ≤ limit + new.position + stand_of new

-- `place` is at most `other_place`; if they are the same entry's place, `number` is at most `other`
pub record ComesFirst (place number other_place other : ℕ) : Type 0 where
  pub least : place ≤ other_place
  pub first : other_place ≤ place → place < past_all → number ≤ other

-- the cursor with that number is the first one whose seat is at the least place, which is an
-- entry's
pub record IsLeastSeat (p : PolicyView) (l : LineView) (seats : List Seat)
    (place number : ℕ) : Type 0 where
  pub cursor : IsCursorAt p l number
  pub at : (seat_at seats number).place ≡ place
  pub real : place < past_all
  pub least : (k : ℕ) → IsCursorAt p l k → ComesFirst place number (seat_at seats k).place k

-- at most `limit` entries were read
pub record ReadsAtMost (limit before after : ℕ) : Type 0 where
  pub total : ℕ
  pub most : total ≤ limit
  pub meter : after ≡ raised before total

-- the first position in an ascending list whose entry is at least `from`; the length of the list if
-- there is none
pub record IsFirstFrom (xs : List ℕ) (from position : ℕ) : Type 0 where
  pub within : position ≤ length xs
  pub before : (k : ℕ) → k < position → slice_index_or xs k 0 < from
  pub after : (k : ℕ) → position ≤ k → k < length xs → from ≤ slice_index_or xs k 0
