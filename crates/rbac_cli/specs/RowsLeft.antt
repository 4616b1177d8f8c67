-- The rows of a matrix that are left to list.
use Rattle.std.specs.Prelude.{◌≡◌, ℕ, Bool, List, [], ◌∷◌, Option, MatchOption}
use Rattle.std.specs.Iterator.{Count, at_most}
use Rattle.rbac_model.specs.Universes.{RowView}
use Rattle.rbac_matrix.specs.RowTexts.{Shows}
use Rattle.rbac_matrix.specs.declared.row.Row.{Row}
use Rattle.rbac_cli.specs.MatrixPage.{rows_listed}
use Rattle.rbac_cli.specs.MatrixRows.{AreRowsLeft, IsOpenAt, is_every_of, most_rows}
use Rattle.rbac_cli.specs.declared.rows_left.RowsLeft.{RowsLeft}

-- the rows list every binding that grants a request, and not the first alone
abbrev pub is_every : RowsLeft → Bool
is_every left = is_every_of left.rows

-- these rows are left: those of the matrix, with `--once` without repeats
abbrev pub AreLeftIn : RowsLeft → List RowView → Type 0
AreLeftIn left all = (rows : List RowView) × AreRowsLeft left.rows rows
    × (all ≡ rows_listed left.once rows)

-- what holds between two calls
abbrev pub IsOpen : RowsLeft → Type 0
IsOpen left = IsOpenAt left.rows

-- no more rows than this are left
abbrev pub most_left : RowsLeft → ℕ
most_left left = most_rows left.rows

-- no more rows than this are left, as a count
abbrev pub rows_left_at_most : RowsLeft → Count
rows_left_at_most left = at_most (most_left left)

-- a row was given: the first of those that were left, and the others are left
abbrev pub GivesFirst : RowsLeft → Row → RowsLeft → Type 0
GivesFirst old r new = (row : RowView) × Shows r row
    × ((all : List RowView) → AreLeftIn old all
    → (others : List RowView) × (all ≡ row ∷ others) × AreLeftIn new others)

-- no row is left
abbrev pub HasNoRows : RowsLeft → Type 0
HasNoRows left = (all : List RowView) → AreLeftIn left all → all ≡ []

-- a call gave the first of the rows that were left, or nothing if none was left
abbrev pub GivesNext : RowsLeft → Option Row → RowsLeft → Type 0
GivesNext old r new = MatchOption r (HasNoRows old) (λ row. GivesFirst old row new)
