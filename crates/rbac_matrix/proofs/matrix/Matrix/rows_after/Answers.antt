use Rattle.std.specs.Option.{option_copied}
use Rattle.rbac_matrix.specs.Enumeration.{AreLeft}
use Rattle.rbac_matrix.proofs.OneMatrix.{matrix_rows}
use Rattle.rbac_matrix.proofs.StartLemmas.{start_rows}
use Rattle.rbac_matrix.proofs.matrix.Matrix.rows_after.Goals as goal

pub returns-clause-rows : goal.returns-clause-rows
unfolding AreLeft
returns-clause-rows c = λ rows is.
    rw (c.rows_from.ensures.index, c.rows_from.ensures.universe, c.rows_from.ensures.starts.at, c.rows_from.ensures.starts.from)
    (start_rows c.args.self.now.index.now.held c.args.self.now.universe.now c.rows_from.ensures.lists (option_copied c.args.key) c.start_after-start.result.at c.start_after-start.result.from rows c.start_after-start.ensures.start
    (matrix_rows c.args.self.now.index.now.held c.args.self.now.universe.now c.rows_from.ensures.lists rows is))
