-- The rows of a matrix that are left, of both kinds.
use Rattle.std.specs.Prelude.{◌≡◌, ℕ, Bool, true, false, List, [], ◌∷◌, Option, MatchOption}
use Rattle.std.specs.Iterator.{Count, at_most}
use Rattle.rbac_model.specs.Universes.{RowView}
use Rattle.rbac_matrix.specs.Enumeration.{AreLeft, IsGoing, requests_left}
use Rattle.rbac_matrix.specs.EveryLeft.{AreEveryLeft, IsGoingEvery, pairs_left}
use Rattle.rbac_matrix.specs.RowTexts.{Shows}
use Rattle.rbac_matrix.specs.declared.row.Row.{Row}
use Rattle.rbac_cli.specs.declared.matrix_rows.MatrixRows.{MatrixRows}
use Rattle.rbac_cli.specs.declared.matrix_rows.MatrixRows.TheVariants.{First, Every}

-- the rows list every binding that grants a request, and not the first alone
abbrev pub is_every_of : MatrixRows → Bool
is_every_of (First rows) = false
is_every_of (Every rows) = true

-- these rows are left
abbrev pub AreRowsLeft : MatrixRows → List RowView → Type 0
AreRowsLeft (First rows) all = AreLeft rows all
AreRowsLeft (Every rows) all = AreEveryLeft rows all

-- what holds between two calls
abbrev pub IsOpenAt : MatrixRows → Type 0
IsOpenAt (First rows) = IsGoing rows
IsOpenAt (Every rows) = IsGoingEvery rows

-- no more rows than this are left
abbrev pub most_rows : MatrixRows → ℕ
most_rows (First rows) = requests_left rows
most_rows (Every rows) = pairs_left rows

-- no more rows than this are left, as a count
abbrev pub rows_at_most : MatrixRows → Count
rows_at_most left = at_most (most_rows left)

-- a row was given: the first of those that were left, and the others are left
abbrev pub GivesFirstRow : MatrixRows → Row → MatrixRows → Type 0
GivesFirstRow old r new = (row : RowView) × Shows r row
    × ((all : List RowView) → AreRowsLeft old all
    → (others : List RowView) × (all ≡ row ∷ others) × AreRowsLeft new others)

-- no row is left
abbrev pub IsAtEnd : MatrixRows → Type 0
IsAtEnd left = (all : List RowView) → AreRowsLeft left all → all ≡ []

-- a call gave the first of the rows that were left, or nothing if none was left
abbrev pub GivesNextRow : MatrixRows → Option Row → MatrixRows → Type 0
GivesNextRow old r new = MatchOption r (IsAtEnd old) (λ row. GivesFirstRow old row new)
