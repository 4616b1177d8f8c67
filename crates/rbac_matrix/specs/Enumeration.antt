-- An enumeration: the rows that are left, and what holds between two calls.
use Rattle.std.specs.Prelude.{◌≡◌, ℕ, ◌+◌, ◌↔◌, List, [], ◌∷◌, ◌++◌, Option, MatchOption, length}
use Rattle.std.specs.Iterator.{Count, at_most}
use Rattle.rbac_model.specs.Policies.{IsPolicy}
use Rattle.rbac_model.specs.Universes.{Cell, IsUniverse, RowView}
use Rattle.rbac_matrix.specs.Blocks.{AreBlocksAt}
use Rattle.rbac_matrix.specs.Cells.{AreRowsOf}
use Rattle.rbac_matrix.specs.Cursors.{AreRunsAt}
use Rattle.rbac_matrix.specs.Lines.{LineView, line, lines_from}
use Rattle.rbac_matrix.specs.Metering.{AreSought, IsMetered, IsReady}
use Rattle.rbac_matrix.specs.Passing.{cells_left}
use Rattle.rbac_matrix.specs.RepeatedLines.{AreClusterWide, HasRepeatsLeft}
use Rattle.rbac_reaches.specs.Reaches.{AreReaches, raised}
use Rattle.rbac_matrix.specs.RowTexts.{Shows}
use Rattle.rbac_matrix.specs.declared.row.Row.{Row}
use Rattle.rbac_matrix.specs.declared.enumeration.Rows.{Rows}
use Rattle.rbac_matrix.specs.declared.start.Start.{Start}

-- these rows are left: those of the requests from the enumeration's place on
unfoldable pub AreLeft : Rows → List RowView → Type 0
AreLeft s rows = AreRowsOf s.index.now.held (cells_left s.universe.now s.at s.from) rows

-- how many requests are left; no more rows than that are left
unfoldable pub requests_left : Rows → ℕ
requests_left s = length (cells_left s.universe.now s.at s.from)

-- how many requests and lines are left to pass
abbrev pub left_to_pass : Rows → ℕ
left_to_pass s = requests_left s + length (lines_from s.universe.now s.at)

abbrev pub left_at_most : Rows → Count
left_at_most s = at_most (requests_left s)

-- the request is on the line that was entered last
abbrev pub IsOnLine : Rows → Cell → Type 0
IsOnLine s c = (ls : List LineView)
    × (lines_from s.universe.now s.at ≡ line c.who c.namespace c.verb ∷ ls)

-- the call returned the first of the rows that were left; the other rows are left, and no line past
-- that of the returned row was entered
pub record GivesRow (s : Rows) (r : Row) (t : Rows) : Type 0 where
  pub row : RowView
  pub shows : Shows r row
  pub on : IsOnLine t row.cell
  pub left : (all : List RowView) → AreLeft s all
      ↔ ((others : List RowView) × (all ≡ row ∷ others) × AreLeft t others)

-- the call returned the first of the rows that were left, or nothing if none was left
abbrev pub GivesFirstLeft : Rows → Option Row → Rows → Type 0
GivesFirstLeft s r t = MatchOption r (AreLeft s [] × AreLeft t []) (λ row. GivesRow s row t)

-- the lines that were entered are those in `behind`, then the line of the seats, if there is one
abbrev pub EntersLast : List LineView → List LineView → List LineView → Type 0
EntersLast [] behind entered = entered ≡ behind
EntersLast (l ∷ ls) behind entered = entered ≡ behind ++ l ∷ []

-- what holds between two calls, with the seats of the grants below `upto` past the current target
pub record IsUnderWay (s : Rows) (upto : ℕ) : Type 0 where
  pub policy : IsPolicy s.index.now
  pub universe : IsUniverse s.universe.now
  pub reaches : AreReaches s.index.now s.universe.now s.reaches.now
  pub ready : IsReady s.index.now s.universe.now s.reaches.now s.at s.from upto s.seats.now
  pub runs : AreRunsAt s.index.now s.universe.now s.at s.kept.runs
  pub blocks : AreBlocksAt s.index.now s.universe.now s.at s.kept s.seats.now
  pub cluster_wide : AreClusterWide s.index.now s.cluster_wide
  pub rows : ℕ
  pub is_returned : s.returned ≡ raised 0 rows
  pub metered : IsMetered s.index.now s.universe.now s.start s.sought s.at s.seats.now rows s.meter

-- what holds between two calls
abbrev pub IsGoing : Rows → Type 0
IsGoing s = IsUnderWay s 0

-- a line is at the enumeration's place, and only repeats are left of it
abbrev pub HasRest : Rows → Type 0
HasRest s = (l : LineView) × (ls : List LineView) × (lines_from s.universe.now s.at ≡ l ∷ ls)
    × HasRepeatsLeft s.index.now s.universe.now l s.from

-- the enumeration begins at `start`, with no row returned yet; the first entry was searched for no
-- more cursors than that line has, and for none if the rows begin with the line's first target
pub record BeginsAt (s : Rows) (start : Start) : Type 0 where
  pub at : s.at ≡ start.at
  pub from : s.from ≡ start.from
  pub first : s.start ≡ start.at
  pub returned : s.returned ≡ 0
  pub whole : start.from ≡ 0 → s.sought ≡ 0
  pub sought : AreSought s.index.now s.universe.now s.start s.sought

-- the lines that were entered: from the first line to that of the seats, inclusive
pub record AreEntered (s : Rows) (entered : List LineView) : Type 0 where
  pub behind : List LineView
  pub whole : lines_from s.universe.now s.start ≡ behind ++ lines_from s.universe.now s.at
  pub last : EntersLast (lines_from s.universe.now s.at) behind entered

-- `new` is the same enumeration as `old`: what it borrows and where it began are the same
pub record GoesOn (old new : Rows) : Type 0 where
  pub index : new.index.now ≡ old.index.now
  pub universe : new.universe.now ≡ old.universe.now
  pub start : new.start ≡ old.start
  pub sought : new.sought ≡ old.sought
