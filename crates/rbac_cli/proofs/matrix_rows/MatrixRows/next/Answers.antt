use Rattle.rbac_cli.proofs.MatrixRowsLemmas.{every_gives, first_gives}
use Rattle.rbac_cli.proofs.matrix_rows.MatrixRows.next.Goals as goal

pub returns-in-First-clause-gives : goal.returns-in-First-clause-gives
returns-in-First-clause-gives c = rw c.in-First.is (first_gives c.in-First.rows c.next.new.self c.next.result c.next.ensures.steps)

pub returns-in-Every-clause-gives : goal.returns-in-Every-clause-gives
returns-in-Every-clause-gives c = rw c.in-Every.is (every_gives c.in-Every.rows c.next-in-Every.new.self c.next-in-Every.result c.next-in-Every.ensures.steps)
