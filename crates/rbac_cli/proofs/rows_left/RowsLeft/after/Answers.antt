use Rattle.std.specs.Option.{option_copied}
use Rattle.rbac_cli.specs.MatrixPage.{rows_listed}
use Rattle.std.proofs.Common.{refl}
use Rattle.rbac_cli.proofs.RowsLeftLemmas.{past_listed}
use Rattle.rbac_cli.proofs.rows_left.RowsLeft.after.Goals as goal

pub returns-clause-left : goal.returns-clause-left
returns-clause-left c =
    let options = c.args.options in
    let (rows, are, left) = c.after.ensures.left in
    (rows_listed options.once rows, (rows, are, refl), (_, left, past_listed options.every options.once (option_copied c.args.mark) rows))
