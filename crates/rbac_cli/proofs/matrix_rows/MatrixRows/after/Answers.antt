use Rattle.std.proofs.Common.{◌≡◌, refl}
use Rattle.std.specs.Option.{option_copied, option_map}
use Rattle.rbac_cli.proofs.MatrixRowsLemmas.{every_listed, first_listed}
use Rattle.rbac_cli.proofs.matrix_rows.MatrixRows.after.Goals as goal
use Rattle.rbac_cli.proofs.matrix_rows.MatrixRows.after.Goals.{in-Some, in-None}

pub returns-then-every-clause-left : goal.returns-then-every-clause-left
returns-then-every-clause-left c =
    let matrix = c.args.matrix.now in
    let rows = c.every_after in
    rw c.if-every.true (every_listed matrix.index.now matrix.universe.now (option_copied c.args.mark) rows.result rows.ensures.going rows.ensures.index rows.ensures.universe
    (c.every_rows_are_there.ensures matrix.index.now matrix.universe.now) rows.ensures.rows)

pub returns-clause-left : goal.returns-clause-left
returns-clause-left c =
    let matrix = c.args.matrix.now in
    let rows = c.rows_after in
    let same : option_copied c.match-mark.key ≡ option_map (λ m. m.key) (option_copied c.args.mark) = elim c.match-mark.branch [
      | in-Some w ↦ rw (w.key-is, w.in-Some.is) refl
      | in-None w ↦ rw (w.key-is, w.in-None.is) refl
    ] in
    rw c.if-every.false (first_listed matrix.index.now matrix.universe.now (option_copied c.args.mark) rows.result (option_copied c.match-mark.key) same rows.ensures.going rows.ensures.index rows.ensures.universe
    (c.a_matrix_is_there.ensures matrix.index.now matrix.universe.now) rows.ensures.rows)
