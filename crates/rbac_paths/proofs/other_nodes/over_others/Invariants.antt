use Rattle.std.proofs.Common.{take}
use Rattle.rbac_paths.specs.Joints.{AreOverOthers}
use Rattle.rbac_paths.proofs.other_nodes.over_others.Given as goal

abbrev pub invariant-loop-held : goal.invariant-loop-held
invariant-loop-held l = AreOverOthers l.steps (take l.held-index l.holdings) l.few.items
