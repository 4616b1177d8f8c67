-- What is printed of a page follows from the keys and bindings of its rows alone.
use Rattle.std.proofs.Common.{◌≡◌, ◌∙◌, ℕ, Bool, true, false, List, [], ◌∷◌, ◌++◌, map, take, length, inl, inr, ap, sym, refl, codes}
use Rattle.std.specs.Prelude.{Option, Some, None, filter, nat_lt, not}
use Rattle.std.specs.List.{flat_map, last_or}
use Rattle.std.specs.Option.{option_map}
use Rattle.std.specs.Ordering.{is_gt}
use Rattle.std.proofs.lemmas.Bool.{cases_Bool}
use Rattle.std.proofs.lemmas.List.{take-map, length-map}
use Rattle.std.specs.Cmp.Lexicographic.{slice_cmp}
use Rattle.rbac_terms.specs.Text.{Text, text_cmp}
use Rattle.rbac_terms.specs.Keys.{KeyTexts, key_cmp, texts}
use Rattle.rbac_terms.specs.declared.granting.Binding.{Binding}
use Rattle.rbac_model.specs.Policies.{binding_name}
use Rattle.rbac_model.specs.Universes.{RowView, cell_key}
use Rattle.rbac_text.specs.Row.{row_text, tab, newline}
use Rattle.rbac_token.specs.Marks.{mark_text, name_texts}
use Rattle.rbac_token.specs.declared.mark.BindingName.{BindingName}
use Rattle.rbac_token.specs.declared.mark.Mark.{Mark}
use Rattle.rbac_matrix.specs.Every.{comes_after, marked_name}
use Rattle.rbac_matrix.specs.Once.{repeats_at, without_repeats}
use Rattle.rbac_cli.specs.MatrixPage.{cut_at, last_words, rows_listed, matrix_text, page_text, rows_past, rows_text}

abbrev pub Line : Type 0
Line = KeyTexts × Binding

abbrev pub line_of : RowView → Line
line_of row = (cell_key row.cell, row.binding)

-- ---- the definitions again, over lines

abbrev lines_text : List Line → Text
lines_text ls = flat_map (λ l. row_text l.0 l.1) ls

abbrev line_mark : Bool → Line → Mark
line_mark false l = record { key = l.0; binding = None }
line_mark true l = record { key = l.0; binding = Some (marked_name l.1) }

abbrev words_after : Bool → Option Line → Bool → Text
words_after every (Some l) true = codes "next" ++ tab ∷ mark_text (line_mark every l)
words_after every (Some l) false = codes "end"
words_after every None more = codes "end"

abbrev lines_page : Bool → List Line → Bool → Text
lines_page every ls more = lines_text ls ++ words_after every (last_or None ls) more ++ newline ∷ []

abbrev lines_cut : Bool → Option ℕ → List Line → Text
lines_cut every None ls = lines_page every ls false
lines_cut every (Some n) ls = lines_page every (take n ls) (nat_lt n (length ls))

abbrev line_comes : KeyTexts → Option BindingName → Line → Bool
line_comes k None l = is_gt (key_cmp l.0 k)
line_comes k (Some b) l = is_gt (slice_cmp text_cmp (texts l.0 ++ binding_name l.1) (texts k ++ name_texts (Some b)))

abbrev lines_past : Bool → Option Mark → List Line → List Line
lines_past every None ls = ls
lines_past false (Some m) ls = filter (line_comes m.key None) ls
lines_past true (Some m) ls = filter (line_comes m.key m.binding) ls

-- ---- and that they give the same

as_lines : (rows : List RowView) → rows_text rows ≡ lines_text (map line_of rows)
as_lines [] = refl
as_lines (row ∷ rows) = ap (λ (t : List ℕ). row_text (cell_key row.cell) row.binding ++ t) (as_lines rows)

as_words : (every : Bool) (o : Option RowView) (more : Bool) → last_words every o more ≡ words_after every (option_map line_of o) more
as_words every None more = refl
as_words false (Some row) true = refl
as_words true (Some row) true = refl
as_words every (Some row) false = refl

as_last : (every : Bool) (o : Option RowView) (rows : List RowView) (more : Bool) → last_words every (last_or o rows) more ≡ words_after every (last_or (option_map line_of o) (map line_of rows)) more
as_last every o [] more = as_words every o more
as_last every o (row ∷ rows) more = as_last every (Some row) rows more

as_page : (every : Bool) (rows : List RowView) (more : Bool) → page_text every (rows, more) ≡ lines_page every (map line_of rows) more
as_page every rows more =
    ap (λ (t : List ℕ). t ++ last_words every (last_or None rows) more ++ newline ∷ []) (as_lines rows)
    ∙ ap (λ (t : List ℕ). lines_text (map line_of rows) ++ t ++ newline ∷ []) (as_last every None rows more)

as_cut : (every : Bool) (limit : Option ℕ) (rows : List RowView) → page_text every (cut_at limit rows) ≡ lines_cut every limit (map line_of rows)
as_cut every None rows = as_page every rows false
as_cut every (Some n) rows =
    as_page every (take n rows) (nat_lt n (length rows))
    ∙ ap (λ (ls : List Line). lines_page every ls (nat_lt n (length rows))) (sym (take-map line_of n rows))
    ∙ ap (λ (m : ℕ). lines_page every (take n (map line_of rows)) (nat_lt n m)) (sym (length-map rows line_of))

comes_so : (k : KeyTexts) (b : Option BindingName) (row : RowView) → comes_after k b row ≡ line_comes k b (line_of row)
comes_so k None row = refl
comes_so k (Some b) row = refl

kept_so : (k : KeyTexts) (b : Option BindingName) (rows : List RowView) → map line_of (filter (comes_after k b) rows) ≡ filter (line_comes k b) (map line_of rows)
kept_so k b [] = refl
kept_so k b (row ∷ rows) = elim (cases_Bool (comes_after k b row)) [
  | inl after ↦ rw after (rw (sym (comes_so k b row) ∙ after) (ap (λ (ls : List Line). line_of row ∷ ls) (kept_so k b rows)))
  | inr not_after ↦ rw not_after (rw (sym (comes_so k b row) ∙ not_after) (kept_so k b rows))
]

as_past : (every : Bool) (m : Option Mark) (rows : List RowView) → map line_of (rows_past every m rows) ≡ lines_past every m (map line_of rows)
as_past false None rows = refl
as_past true None rows = refl
as_past false (Some m) rows = kept_so m.key None rows
as_past true (Some m) rows = kept_so m.key m.binding rows

as_matrix_text : (every : Bool) (m : Option Mark) (limit : Option ℕ) (rows : List RowView) → matrix_text every m limit rows ≡ lines_cut every limit (lines_past every m (map line_of rows))
as_matrix_text every m limit rows = as_cut every limit (rows_past every m rows) ∙ ap (lines_cut every limit) (as_past every m rows)

pub one_matrix_text : (every : Bool) (m : Option Mark) (limit : Option ℕ) (rows others : List RowView) → map line_of rows ≡ map line_of others
    → matrix_text every m limit rows ≡ matrix_text every m limit others
one_matrix_text every m limit rows others e =
    as_matrix_text every m limit rows ∙ ap (λ (ls : List Line). lines_cut every limit (lines_past every m ls)) e ∙ sym (as_matrix_text every m limit others)

-- ---- whether a row is a repeat follows from its key and binding

abbrev repeat_of : Line → Bool
repeat_of l = repeats_at l.0.namespace l.1.namespace

unrepeated : (rows : List RowView) → map line_of (without_repeats rows) ≡ filter (λ l. not (repeat_of l)) (map line_of rows)
unrepeated [] = refl
unrepeated (row ∷ rows) = elim (cases_Bool (not (repeat_of (line_of row)))) [
  | inl kept ↦ rw kept (ap (λ (ls : List Line). line_of row ∷ ls) (unrepeated rows))
  | inr left ↦ rw left (unrepeated rows)
]

pub listed_alike : (once : Bool) (rows others : List RowView) → map line_of rows ≡ map line_of others → map line_of (rows_listed once rows) ≡ map line_of (rows_listed once others)
listed_alike false rows others e = e
listed_alike true rows others e = unrepeated rows ∙ ap (filter (λ l. not (repeat_of l))) e ∙ sym (unrepeated others)
