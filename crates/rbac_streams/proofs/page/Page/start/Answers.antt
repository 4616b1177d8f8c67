use Rattle.std.proofs.Common.{rules, refl}
use Rattle.std.proofs.KnownBytes.{Keeps-refl}
use Rattle.rbac_streams.proofs.TakenLemmas.{Took-nothing, Printed-nothing}
use Rattle.rbac_streams.proofs.page.Page.start.Goals as goal

pub returns-clause-printed : goal.returns-clause-printed
returns-clause-printed g c = Printed-nothing g.W.Write.contents c.args._sink.now _ (search rules) (search rules)

pub returns-clause-took : goal.returns-clause-took
returns-clause-took g c = Took-nothing g.W.Write.contents c.args._sink.now c.args._sink.now refl (Keeps-refl (g.W.Write.contents c.args._sink.now.writer))
