use Rattle.std.proofs.Common.{◌∙◌, ap}
use Rattle.std.specs.Prelude.{None}
use Rattle.rbac_matrix.specs.Lines.{lines_from, place}
use Rattle.rbac_matrix.proofs.StartLemmas.{start_first, start_same}
use Rattle.rbac_matrix.proofs.start.start_after.Goals as goal

pub returns-in-None-clause-start : goal.returns-in-None-clause-start
returns-in-None-clause-start c =
    rw (c.in-None.is, c.line_start.ensures.whole) (start_same c.args.universe.now None c.line_start.result.at (place 0 0 0) (c.line_start.ensures.same ∙ ap (lines_from c.args.universe.now) c.of_principal.ensures) (start_first c.args.universe.now))
