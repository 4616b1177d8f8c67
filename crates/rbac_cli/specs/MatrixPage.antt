-- The rows that a `matrix` command lists, and the page of them that it prints.
use Rattle.std.specs.Prelude.{◌≡◌, ℕ, Bool, true, false, List, [], ◌∷◌, ◌++◌, codes}
use Rattle.std.specs.Prelude.{Option, Some, None}
use Rattle.std.specs.List.{flat_map, last_or}
use Rattle.std.specs.Option.{option_map}
use Rattle.rbac_terms.specs.Text.{Text}
use Rattle.rbac_model.specs.Policies.{Held}
use Rattle.rbac_model.specs.Universes.{UniverseView, RowView, IsMatrix, cell_key, page, rows_after}
use Rattle.rbac_text.specs.Row.{row_text, tab, newline}
use Rattle.rbac_token.specs.Marks.{mark_text}
use Rattle.rbac_token.specs.declared.mark.Mark.{Mark}
use Rattle.rbac_question.specs.declared.command.MatrixOptions.{MatrixOptions}
use Rattle.rbac_matrix.specs.Every.{IsEvery, every_after, mark_of}
use Rattle.rbac_matrix.specs.Once.{without_repeats}

-- the matrix, or with `--every` a row for each binding that grants (own)
abbrev pub AreRows : Bool → Held → UniverseView → List RowView → Type 0
AreRows false held u rows = IsMatrix held u rows
AreRows true held u rows = IsEvery held u rows

-- the rows that are listed: all, or with `--once` those that don't repeat what holds in the whole
-- cluster (own)
abbrev pub rows_listed : Bool → List RowView → List RowView
rows_listed false rows = rows
rows_listed true rows = without_repeats rows

-- the rows that these options list (own)
abbrev pub AreListedRows : MatrixOptions → Held → UniverseView → List RowView → Type 0
AreListedRows options held u all = (rows : List RowView) × AreRows options.every held u rows
    × (all ≡ rows_listed options.once rows)

-- the rows after the mark; without `--every`, those whose key is greater than the mark's (own)
abbrev pub rows_past : Bool → Option Mark → List RowView → List RowView
rows_past false m rows = rows_after (option_map (λ x. x.key) m) rows
rows_past true m rows = every_after m rows

-- the first rows, as many as the limit, and whether more follow; all rows if there is no limit
abbrev pub cut_at : Option ℕ → List RowView → List RowView × Bool
cut_at None rows = (rows, false)
cut_at (Some n) rows = page None n rows

-- the mark with which the next page begins after a row: the row's key, or with `--every` its key
-- and its binding
abbrev pub mark_after : Bool → RowView → Mark
mark_after false row = record { key = cell_key row.cell; binding = None }
mark_after true row = mark_of row

-- the last line without its end: `next` and the token of the last row's mark if more rows follow
-- it, otherwise `end` (own)
abbrev pub last_words : Bool → Option RowView → Bool → Text
last_words every (Some row) true = codes "next" ++ tab ∷ mark_text (mark_after every row)
last_words every (Some row) false = codes "end"
last_words every None more = codes "end"

-- the lines of rows, one after the other
abbrev pub rows_text : List RowView → Text
rows_text rows = flat_map (λ row. row_text (cell_key row.cell) row.binding) rows

-- the lines of a page: its rows, and the last line
abbrev pub page_text : Bool → List RowView × Bool → Text
page_text every p = rows_text p.0 ++ last_words every (last_or None p.0) p.1 ++ newline ∷ []

-- the listed rows after the mark, cut at the limit, each on a line, and the last line (own); with a
-- limit n, `cut_at` of these rows is `page k n rows` of the mark's key k, or with `--every`
-- `every_page m n rows`
abbrev pub matrix_text : Bool → Option Mark → Option ℕ → List RowView → List ℕ
matrix_text every m limit rows = page_text every (cut_at limit (rows_past every m rows))
