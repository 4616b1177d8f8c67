-- The lines of a page, one after another.
use Rattle.std.proofs.Common.{◌≡◌, ◌≢◌, ◌∙◌, ◌-◌, ◌++◌, zero, suc, Bool, true, false, eqb, List, [], ◌∷◌, length, take, refl, ap, ap₂, sym, subst, arith, append_assoc, ℕ, codes, Result, Ok, Err, IfOk}
use Rattle.std.specs.Prelude.{OnOk, Option, Some, None, nat_lt}
use Rattle.std.proofs.lemmas.List.{append-nil}
use Rattle.std.proofs.lemmas.Option.{same_Some}
use Rattle.std.specs.List.{last_or}
use Rattle.std.specs.Option.{option_eq, option_map}
use Rattle.std.proofs.lemmas.Bool.{false≢true}
use Rattle.std.proofs.lemmas.Bool.Decides.{Decides-eqb, nat_tests}
use Rattle.rbac_terms.specs.Text.{Text}
use Rattle.rbac_terms.specs.Keys.{KeyTexts}
use Rattle.rbac_terms.specs.declared.granting.Binding.{Binding}
use Rattle.rbac_model.specs.Universes.{RowView, cell_key}
use Rattle.rbac_text.specs.Row.{newline, row_text, tab}
use Rattle.rbac_token.specs.Marks.{mark_text}
use Rattle.rbac_token.specs.declared.mark.Mark.{Mark}
use Rattle.rbac_matrix.specs.Every.{marked_name}
use Rattle.rbac_matrix.specs.RowTexts.{Shows, texts_shown}
use Rattle.rbac_matrix.specs.declared.row.Row.{Row}
use Rattle.rbac_cli.specs.RowsLeft.{AreLeftIn, GivesFirst, HasNoRows, is_every}
use Rattle.rbac_cli.specs.MatrixPage.{cut_at, last_words, mark_after, rows_text}
use Rattle.rbac_cli.specs.PageLeft.{IsPageLeft, IsPageOpen, IsRestOfPage, is_left, most_lines, text_after}
use Rattle.rbac_cli.specs.Printing.{GivesLine}
use Rattle.rbac_cli.specs.ShownTokens.{last_line, mark_shown}
use Rattle.rbac_cli.specs.declared.row_ends.RowEnds.{RowEnds}
use Rattle.rbac_cli.specs.declared.rows_left.RowsLeft.{RowsLeft}
use Rattle.rbac_cli.specs.declared.pages.PageLines.{PageLines}

-- what the comparison with no rows left says
pub not_full : (left : Option ℕ) → option_eq eqb left (Some 0) ≡ false → left ≢ Some 0
not_full left e full = false≢true (sym e ∙ ap (λ (l : Option ℕ). option_eq eqb l (Some 0)) full)

pub full : (left : Option ℕ) → option_eq eqb left (Some 0) ≡ true → left ≡ Some 0
full None e = cc
full (Some n) e = ap Some ((Decides-eqb n 0).0 e)

-- ---- how a limit cuts

abbrev Cut : Type 0
Cut = List RowView × Bool

abbrev one_less : Option ℕ → Option ℕ
one_less limit = option_map (λ n. n - 1) limit

cut_row : (limit : Option ℕ) (row : RowView) (others : List RowView) → limit ≢ Some 0 → cut_at limit (row ∷ others) ≡ (row ∷ (cut_at (one_less limit) others).0, (cut_at (one_less limit) others).1)
cut_row None row others some = refl
cut_row (Some zero) row others some = absurd (some refl)
cut_row (Some (suc n)) row others some =
    let e : suc n - 1 ≡ n = omega arith in
    let same : nat_lt (suc n) (suc (length others)) ≡ nat_lt n (length others) = grind (arith, nat_tests) in
    rw e (ap (λ (more : Bool). let cut : Cut = (row ∷ take n others, more) in cut) same)

cut_none : (limit : Option ℕ) → cut_at limit [] ≡ ([], false)
cut_none None = refl
cut_none (Some zero) = refl
cut_none (Some (suc n)) =
    let none : nat_lt (suc n) 0 ≡ false = grind (arith, nat_tests) in
    ap (λ (more : Bool). let cut : Cut = ([], more) in cut) none

cut_full : (row : RowView) (others : List RowView) → cut_at (Some 0) (row ∷ others) ≡ ([], true)
cut_full row others =
    let more : nat_lt 0 (suc (length others)) ≡ true = grind (arith, nat_tests) in
    ap (λ (more : Bool). let cut : Cut = ([], more) in cut) more

-- ---- the last line

end_words : (every : Bool) (row : Option RowView) → last_words every row false ≡ codes "end"
end_words every None = refl
end_words every (Some row) = refl

next_words : (every : Bool) (last : Option Row) (row : Option RowView) → option_map (mark_shown every) last ≡ option_map (mark_after every) row
    → last_words every row true ++ newline ∷ [] ≡ last_line every last
next_words every None None e = refl
next_words every (Some r) (Some row) e = ap (λ (m : Mark). (codes "next" ++ tab ∷ mark_text m) ++ newline ∷ []) (sym (same_Some (mark_shown every r) (mark_after every row) e))
next_words every None (Some row) e = cc
next_words every (Some r) None e = cc

-- ---- a row's line

same_mark : (every : Bool) (r : Row) (row : RowView) → Shows r row → mark_shown every r ≡ mark_after every row
same_mark false r row shows = ap (λ (k : KeyTexts). let m : Mark = record { key = k; binding = None } in m) shows.texts
same_mark true r row shows = ap₂ (λ (k : KeyTexts) (b : Binding). let m : Mark = record { key = k; binding = Some (marked_name b) } in m) shows.texts shows.binding

module _ (page : PageLines) (text : Text) (h : IsRestOfPage page text) where
  abbrev every : Bool
  every = is_every page.left

  module _ (t : RowsLeft) (r : Row) (gives : GivesFirst page.left r t) where
    others : (others : List RowView) × (h.1 ≡ gives.0 ∷ others) × AreLeftIn t others
    others = gives.2 h.1 h.3

    -- a row is left, and the limit leaves it
    pub goes_on : (ends : RowEnds) → page.limit ≢ Some 0 → is_every t ≡ every
        → (rest : Text) × (text ≡ row_text (texts_shown r) r.binding.now ++ rest) × IsRestOfPage (record page { left = t; limit = one_less page.limit; last = Some r; ends = ends }) rest
    goes_on ends some same =
        let cut = cut_at (one_less page.limit) others.0 in
        let words = last_words every (last_or (Some gives.0) cut.0) cut.1 in
        let line = row_text (cell_key gives.0.cell) gives.0.binding in
        let rest = text_after every (Some gives.0) cut in (
          rest,
          h.4 ∙ ap (λ (rows : List RowView). text_after every h.0 (cut_at page.limit rows)) others.1
              ∙ ap (text_after every h.0) (cut_row page.limit gives.0 others.0 some)
              ∙ ap (λ (t : Text). t ++ newline ∷ []) (append_assoc line (rows_text cut.0) words) ∙ append_assoc line (rows_text cut.0 ++ words) (newline ∷ [])
              ∙ ap (λ (t : Text). t ++ rest) (ap₂ row_text (sym gives.1.texts) (sym gives.1.binding)),
          (Some gives.0, others.0, ap Some (same_mark (is_every t) r gives.0 gives.1), others.2, ap (λ (e : Bool). text_after e (Some gives.0) cut) (sym same)),
        )

  -- no row is left, so the last line says that none follows
  pub ends : HasNoRows page.left → text ≡ codes "end" ++ newline ∷ []
  ends over =
      h.4 ∙ ap (λ (rows : List RowView). text_after every h.0 (cut_at page.limit rows)) (over h.1 h.3)
      ∙ ap (text_after every h.0) (cut_none page.limit) ∙ ap (λ (t : Text). t ++ newline ∷ []) (end_words every h.0)

  -- a row is left, and the limit leaves none, so the last line has the token of the last row
  pub stops : (t : RowsLeft) (r : Row) → GivesFirst page.left r t → page.limit ≡ Some 0 → text ≡ last_line every page.last
  stops t r gives none =
      h.4 ∙ ap (λ (rows : List RowView). text_after every h.0 (cut_at page.limit rows)) (others t r gives).1
      ∙ ap (λ (limit : Option ℕ). text_after every h.0 (cut_at limit (gives.0 ∷ (others t r gives).0))) none
      ∙ ap (text_after every h.0) (cut_full gives.0 (others t r gives).0)
      ∙ next_words every page.last h.0 h.2

-- ---- the last line is put

last_gives : (old new : PageLines) (line : Text) → old.has_ended ≡ false → new.has_ended ≡ true → IsPageOpen new → ((text : Text) → IsRestOfPage old text → text ≡ line)
    → GivesLine IsPageLeft IsPageOpen most_lines old line new true
last_gives old new line was is going same = (
  going,
  rw (was, is) (omega arith),
  λ text left. ([], same text (subst (λ (b : Bool). is_left b old text) was left) ∙ sym (append-nil line), rw is refl),
)

pub of_last : {E : Type 0} (r : Result Bool E) (old new : PageLines) (line words : Text) → old.has_ended ≡ false → new.has_ended ≡ true → IsPageOpen new
    → IfOk r (λ more. more ≡ true) → OnOk r (line ≡ words) → ((text : Text) → IsRestOfPage old text → text ≡ words)
    → IfOk r (GivesLine IsPageLeft IsPageOpen most_lines old line new)
of_last (Ok true) old new line words was is going more e same = last_gives old new line was is going (λ text h. same text h ∙ sym e)
of_last (Ok false) old new line words was is going more e same = cc
of_last (Err x) old new line words was is going more e same = tt
