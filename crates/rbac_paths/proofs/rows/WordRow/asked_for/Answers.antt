use Rattle.rbac_paths.specs.Nodes.{node_of}
use Rattle.rbac_paths.proofs.Taken.{asked_takes, none_asked}
use Rattle.rbac_paths.proofs.rows.WordRow.asked_for.Goals as goal

pub returns-in-Some : goal.returns-in-Some
returns-in-Some c h = asked_takes c.args.self.now (node_of c.args.node) c.in-Some.asked.namespace.now c.in-Some.asked.own.now c.in-Some.ensures h

pub returns-in-None : goal.returns-in-None
returns-in-None c = none_asked c.args.self.now (node_of c.args.node) c.in-None.ensures
