-- The token of a row that is shown, and the last line of a page.
use Rattle.std.specs.Prelude.{[], ◌∷◌, ◌++◌, codes, Bool, true, false, Option, Some, None}
use Rattle.rbac_terms.specs.Text.{Text}
use Rattle.rbac_text.specs.Row.{tab, newline}
use Rattle.rbac_token.specs.Marks.{mark_text}
use Rattle.rbac_token.specs.declared.mark.Mark.{Mark}
use Rattle.rbac_matrix.specs.Every.{marked_name}
use Rattle.rbac_matrix.specs.RowTexts.{texts_shown}
use Rattle.rbac_matrix.specs.declared.row.Row.{Row}

-- the mark with which the next page begins after the row: its key, or with `--every` its key and
-- its binding
abbrev pub mark_shown : Bool → Row → Mark
mark_shown false row = record { key = texts_shown row; binding = None }
mark_shown true row = record { key = texts_shown row; binding = Some (marked_name row.binding.now) }

-- `next` and that mark's token, joined by a tab
abbrev pub next_token : Bool → Row → Text
next_token every row = codes "next" ++ tab ∷ mark_text (mark_shown every row)

-- the last line of a page: for the row after which more follow, or for the end if there is none
abbrev pub last_line : Bool → Option Row → Text
last_line every (Some row) = next_token every row ++ newline ∷ []
last_line every None = codes "end" ++ newline ∷ []
