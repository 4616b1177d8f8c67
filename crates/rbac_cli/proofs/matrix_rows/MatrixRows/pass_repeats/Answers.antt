use Rattle.rbac_cli.proofs.matrix_rows.MatrixRows.pass_repeats.Goals as goal

pub returns-in-First-clause-passes : goal.returns-in-First-clause-passes
returns-in-First-clause-passes c = rw c.in-First.is c.pass_repeats.ensures.passes

pub returns-in-Every-clause-passes : goal.returns-in-Every-clause-passes
returns-in-Every-clause-passes c = rw c.in-Every.is c.pass_repeats-in-Every.ensures.passes
