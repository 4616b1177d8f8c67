-- The rows that are left to list are those of the matrix, with `--once` without repeats.
use Rattle.std.proofs.Common.{◌≡◌, ◌∙◌, Bool, true, false, List, [], ◌∷◌, ◌++◌, All, inl, inr, ap, sym, subst, refl}
use Rattle.std.specs.Prelude.{Option, Some, None, filter, not}
use Rattle.std.proofs.lemmas.Bool.{cases_Bool}
use Rattle.std.proofs.lemmas.List.Elements.{All-head, All-tail}
use Rattle.rbac_model.specs.Universes.{RowView}
use Rattle.rbac_token.specs.declared.mark.Mark.{Mark}
use Rattle.rbac_matrix.specs.Every.{comes_after}
use Rattle.rbac_matrix.specs.Once.{PassesRepeats, is_repeat, without_repeats}
use Rattle.rbac_matrix.specs.declared.row.Row.{Row}
use Rattle.rbac_cli.specs.MatrixPage.{rows_listed, rows_past}
use Rattle.rbac_cli.specs.MatrixRows.{AreRowsLeft, GivesNextRow}
use Rattle.rbac_cli.specs.RowsLeft.{GivesNext}
use Rattle.rbac_cli.specs.declared.matrix_rows.MatrixRows.{MatrixRows}
use Rattle.rbac_cli.specs.declared.rows_left.RowsLeft.{RowsLeft}

-- ---- which are left at first

swap : {X : Type 0} (p q : X → Bool) (xs : List X) → filter p (filter q xs) ≡ filter q (filter p xs)
swap p q [] = refl
swap p q (x ∷ xs) = elim (cases_Bool (p x)) [
  | inl py ↦ elim (cases_Bool (q x)) [
    | inl qy ↦ rw (py, qy) (rw py (ap (λ ys. x ∷ ys) (swap p q xs)))
    | inr qn ↦ rw (py, qn) (swap p q xs)
  ]
  | inr pn ↦ elim (cases_Bool (q x)) [
    | inl qy ↦ rw (pn, qy) (rw pn (swap p q xs))
    | inr qn ↦ rw (pn, qn) (swap p q xs)
  ]
]

pub past_listed : (every once : Bool) (m : Option Mark) (rows : List RowView) → rows_past every m (rows_listed once rows) ≡ rows_listed once (rows_past every m rows)
past_listed every false m rows = refl
past_listed false true None rows = refl
past_listed true true None rows = refl
past_listed false true (Some m) rows = swap (comes_after m.key None) (λ row. not (is_repeat row)) rows
past_listed true true (Some m) rows = swap (comes_after m.key m.binding) (λ row. not (is_repeat row)) rows

-- ---- the next of them

none_of : (passed others : List RowView) → All (λ row. is_repeat row ≡ true) passed → without_repeats (passed ++ others) ≡ without_repeats others
none_of [] others all = refl
none_of (row ∷ passed) others all =
    let here = All-head (λ row. is_repeat row ≡ true) row passed all in
    rw here (none_of passed others (All-tail (λ row. is_repeat row ≡ true) row passed all))

kept_first : (row : RowView) (others : List RowView) → is_repeat row ≡ false → without_repeats (row ∷ others) ≡ row ∷ without_repeats others
kept_first row others plain = rw plain refl

as_once : (once : Bool) (rows : List RowView) → once ≡ true → rows_listed once rows ≡ without_repeats rows
as_once once rows e = rw e refl

module _ (old new : RowsLeft) (mid : MatrixRows) (p : PassesRepeats (AreRowsLeft old.rows) (AreRowsLeft mid)) (was : old.once ≡ true) (is : new.once ≡ true) where
  pub next_once : (r : Option Row) → GivesNextRow mid r new.rows → GivesNext old r new
  next_once None over = λ all (rows, left, e).
      let (rest, parts, here) = (p.some.left rows).0 left in
      e ∙ as_once old.once rows was ∙ ap without_repeats parts ∙ none_of p.some.passed rest p.some.repeats ∙ ap without_repeats (over rest here)
  next_once (Some r) (row, shows, first) = (
    row,
    shows,
    λ all (rows, left, e).
        let (rest, parts, here) = (p.some.left rows).0 left in
        let (others, cons, after) = first rest here in
        let plain = p.first row others (subst (AreRowsLeft mid) cons here) in (
          without_repeats others,
          e ∙ as_once old.once rows was ∙ ap without_repeats parts ∙ none_of p.some.passed rest p.some.repeats ∙ ap without_repeats cons ∙ kept_first row others plain,
          (others, after, sym (as_once new.once others is)),
        ),
  )

module _ (old new : RowsLeft) (was : old.once ≡ false) (is : new.once ≡ false) where
  pub next_plain : (r : Option Row) → GivesNextRow old.rows r new.rows → GivesNext old r new
  next_plain None over = λ all (rows, left, e). e ∙ rw was (over rows left)
  next_plain (Some r) (row, shows, first) = (
    row,
    shows,
    λ all (rows, left, e).
        let (others, cons, after) = first rows left in (others, e ∙ rw was cons, (others, after, rw is refl)),
  )
