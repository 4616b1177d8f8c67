use Rattle.rbac_cli.proofs.matrix.print_matrix.Goals as goal

pub returns : goal.returns
returns g c = c.print_rows.ensures c.args.export.now c.in_ok-basis.ensures.universe c.in_ok-basis.ensures.index
