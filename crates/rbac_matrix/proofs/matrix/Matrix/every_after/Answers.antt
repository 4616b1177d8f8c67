use Rattle.std.specs.Option.{option_copied}
use Rattle.rbac_matrix.specs.EveryLeft.{AreEveryLeft}
use Rattle.rbac_matrix.proofs.EveryStartLemmas.{start_every}
use Rattle.rbac_matrix.proofs.matrix.Matrix.every_after.Goals as goal

pub returns-clause-going : goal.returns-clause-going
returns-clause-going c = record {
  way = c.pass.ensures.way;
  below = rw (c.pass.ensures.same.index, c.rows_from-rows.ensures.index) c.every_start-start.ensures.below;
  within = rw (c.pass.ensures.place.1, c.pass.ensures.same.universe, c.rows_from-rows.ensures.starts.from, c.rows_from-rows.ensures.universe) c.every_start-start.ensures.within;
}

pub returns-clause-rows : goal.returns-clause-rows
unfolding AreEveryLeft
returns-clause-rows c = λ rows is.
    rw (c.pass.ensures.same.index, c.rows_from-rows.ensures.index, c.pass.ensures.same.universe, c.rows_from-rows.ensures.universe, c.pass.ensures.place.0, c.pass.ensures.place.1, c.rows_from-rows.ensures.starts.at, c.rows_from-rows.ensures.starts.from)
    (start_every c.args.self.now.index.now c.rows_from-rows.ensures.policy c.args.self.now.universe.now c.rows_from-rows.ensures.lists (option_copied c.args.mark) c.every_start-start.result.request.at c.every_start-start.result.request.from c.every_start-start.result.binding rows
    (c.every_start-start.ensures.start c.rows_from-rows.ensures.policy c.rows_from-rows.ensures.lists) is)
