-- How an enumeration goes from one row to the next.
use Rattle.std.specs.Prelude.{◌≡◌, ℕ, ◌<◌, ◌≤◌, ◌⊎◌, Some, List, [], ◌∷◌, ◌++◌, slice_get}
use Rattle.rbac_model.specs.Policies.{Held, PolicyView, GrantView, GrantAllows}
use Rattle.rbac_model.specs.Universes.{UniverseView, Listed, Cell, RowView, Fits}
use Rattle.rbac_matrix.specs.Cells.{AreRowsOf, cell_at}
use Rattle.rbac_matrix.specs.Cursors.{IsCursorAt}
use Rattle.rbac_matrix.specs.Lines.{IsSettled, LineView, cells_of_lines, lines_from}
use Rattle.rbac_matrix.specs.Metering.{IsReady, Skips}
use Rattle.rbac_matrix.specs.declared.line.Place.{Place}
use Rattle.rbac_matrix.specs.Seats.{ArePast, AreSeated, AreSeatedAbout, seat_at}
use Rattle.rbac_matrix.specs.declared.seat.Seat.{Seat}

-- `ds` are the last of the requests `cs`, and these rows are the rows of the requests before `ds`
pub record Passes (h : Held) (cs ds : List Cell) (rows : List RowView) : Type 0 where
  pub between : List Cell
  pub whole : cs ≡ between ++ ds
  pub are : AreRowsOf h between rows

-- the line's request for a target
abbrev pub cell_of : LineView → Listed → Cell
cell_of l t = cell_at l.who l.namespace l.verb t

-- the grant with that number allows the line's request for the target at that place, and the
-- request fits
pub record IsHit (p : PolicyView) (u : UniverseView) (l : LineView)
    (place number : ℕ) : Type 0 where
  pub target : Listed
  pub grant : GrantView
  pub target_at : slice_get u.targets place ≡ Some target
  pub grant_at : slice_get p.grants number ≡ Some grant
  pub fits : Fits (cell_of l target)
  pub allows : GrantAllows l.who l.namespace l.verb target.0 grant

-- the row of a hit, with the binding of its grant
abbrev pub row_on : (p : PolicyView) (u : UniverseView) (l : LineView) (place number : ℕ)
    → IsHit p u l place number → RowView
row_on p u l place number r = record { cell = cell_of l r.target; binding = r.grant.binding }

-- `place` and `number` don't come before `from` and `upto`
abbrev pub IsNoEarlier : ℕ → ℕ → ℕ → ℕ → Type 0
IsNoEarlier place number from upto = (from < place) ⊎ ((from ≡ place) × (upto ≤ number))

-- the first hit from a place and a number on, in order of places, then of numbers
pub record IsNextHit (p : PolicyView) (u : UniverseView) (l : LineView)
    (from upto place number : ℕ) : Type 0 where
  pub hit : IsHit p u l place number
  pub onward : IsNoEarlier place number from upto
  pub first : (q k : ℕ) → IsHit p u l q k → IsNoEarlier q k from upto → IsNoEarlier q k place number

-- no hit is at a place and a number from these on
abbrev pub HasNoHit : PolicyView → UniverseView → LineView → ℕ → ℕ → Type 0
HasNoHit p u l from upto = (q k : ℕ) → IsHit p u l q k → IsNoEarlier q k from upto → ⊥

-- the next hit of the line, with the seat of its grant at its place; the seats are right for the
-- rows from that place on, whether the grants before the hit's count as past it or not
pub record FindsRow (p : PolicyView) (u : UniverseView) (rs : List (List ℕ)) (l : LineView)
    (from upto : ℕ) (seats : List Seat) (place number : ℕ) : Type 0 where
  pub next : IsNextHit p u l from upto place number
  pub cursor : IsCursorAt p l number
  pub stands : (seat_at seats number).place ≡ place
  pub about : (end : ℕ) → number < end → AreSeatedAbout p l rs place end seats
  pub here : (low : ℕ) → low ≤ number → IsNoEarlier place low from upto → AreSeated p l rs place low seats

-- the line has no further hit, and no seat is at an entry
pub record EndsLine (p : PolicyView) (u : UniverseView) (rs : List (List ℕ)) (l : LineView)
    (from upto : ℕ) (seats : List Seat) : Type 0 where
  pub none : HasNoHit p u l from upto
  pub reached : ℕ
  pub low : ℕ
  pub seated : AreSeated p l rs reached low seats
  pub past : ArePast seats

-- the requests that are left from a line's place and a target's place on
abbrev pub cells_left : UniverseView → Place → ℕ → List Cell
cells_left u at from = cells_of_lines u from (lines_from u at)

-- the line at `at` has no further hit, and only lines without rows are between it and the place
-- `to`
pub record PassesLine (p : PolicyView) (u : UniverseView) (at : Place) (from upto : ℕ)
    (to : Place) : Type 0 where
  pub line : LineView
  pub next : Place
  pub line_at : lines_from u at ≡ line ∷ lines_from u next
  pub none : HasNoHit p u line from upto
  pub skips : Skips p.held u next to

-- the search is still at the same line, target and number, or at the beginning of a later line
abbrev pub Leads : PolicyView → UniverseView → Place → ℕ → ℕ → Place → ℕ → ℕ → Type 0
Leads p u at from upto to begin low =
    ((to ≡ at) × (begin ≡ from) × (low ≡ upto))
    ⊎ ((begin ≡ 0) × (low ≡ 0) × PassesLine p u at from upto to)

-- from line place `at`, target place `from` and grant number `upto` on, the next hit is that of
-- target `place` and grant `number`, on the line at `to`
pub record FindsCell (p : PolicyView) (u : UniverseView) (rs : List (List ℕ)) (at : Place)
    (from upto : ℕ) (to : Place) (seats : List Seat) (place number : ℕ) : Type 0 where
  pub line : LineView
  pub others : List LineView
  pub line_at : lines_from u to ≡ line ∷ others
  pub begin : ℕ
  pub low : ℕ
  pub leads : Leads p u at from upto to begin low
  pub found : FindsRow p u rs line begin low seats place number
  pub settled : IsSettled u to

-- no further hit is on any line, and the place is past all lines
pub record EndsAll (p : PolicyView) (u : UniverseView) (rs : List (List ℕ)) (at : Place)
    (from upto : ℕ) (to : Place) (seats : List Seat) : Type 0 where
  pub ended : lines_from u to ≡ []
  pub begin : ℕ
  pub low : ℕ
  pub leads : Leads p u at from upto to begin low
  pub ready : (left above : ℕ) → IsReady p u rs to left above seats
