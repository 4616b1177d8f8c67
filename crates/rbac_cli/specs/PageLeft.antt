-- The lines that a page has left.
use Rattle.std.specs.Prelude.{◌≡◌, ℕ, ◌+◌, Bool, true, false, List, [], ◌∷◌, ◌++◌, Option}
use Rattle.std.specs.List.{last_or}
use Rattle.std.specs.Option.{option_map}
use Rattle.rbac_terms.specs.Text.{Text}
use Rattle.rbac_model.specs.Universes.{RowView}
use Rattle.rbac_text.specs.Row.{newline}
use Rattle.rbac_cli.specs.RowsLeft.{AreLeftIn, IsOpen, is_every, most_left}
use Rattle.rbac_cli.specs.RowEnds.{AreEndsOf}
use Rattle.rbac_cli.specs.MatrixPage.{cut_at, last_words, mark_after, rows_text}
use Rattle.rbac_cli.specs.ShownTokens.{mark_shown}
use Rattle.rbac_cli.specs.declared.pages.PageLines.{PageLines}

-- the lines of a page that come after a row, if one is given: its other rows, and the last line
abbrev pub text_after : Bool → Option RowView → List RowView × Bool → Text
text_after every row p =
    rows_text p.0 ++ last_words every (last_or row p.0) p.1 ++ newline ∷ []

-- what holds between two calls
abbrev pub IsPageOpen : PageLines → Type 0
IsPageOpen page = IsOpen page.left × AreEndsOf page.last page.ends

-- the row that was printed last has the mark of this one
abbrev pub IsPrintedLast : PageLines → Option RowView → Type 0
IsPrintedLast page row =
    option_map (mark_shown (is_every page.left)) page.last
    ≡ option_map (mark_after (is_every page.left)) row

-- before the last line: of the rows that are left those that the limit leaves, and the last line
abbrev pub IsRestOfPage : PageLines → Text → Type 0
IsRestOfPage page text =
    (row : Option RowView) × (rows : List RowView) × IsPrintedLast page row
    × AreLeftIn page.left rows
    × (text ≡ text_after (is_every page.left) row (cut_at page.limit rows))

-- these lines are left: none once the last line was printed
abbrev pub is_left : Bool → PageLines → Text → Type 0
is_left true page text = text ≡ []
is_left false page text = IsRestOfPage page text

-- these lines of the page are left
abbrev pub IsPageLeft : PageLines → Text → Type 0
IsPageLeft page text = is_left page.has_ended page text

-- no more lines than this are left: the rows and the last line, or none once it was printed
abbrev pub lines_before : Bool → ℕ → ℕ
lines_before true rows = 0
lines_before false rows = rows + 1

-- no more lines of the page than this are left
abbrev pub most_lines : PageLines → ℕ
most_lines page = lines_before page.has_ended (most_left page.left)
