use Rattle.std.proofs.Common.{rules, tests}
use Rattle.rbac_paths.specs.Joints.{SomeMayTake}
use Rattle.rbac_paths.proofs.other_nodes.some_may_take.Goals as goal

pub returns : goal.returns
unfolding SomeMayTake
returns c = search (rules, tests)
