use Rattle.std.proofs.Common.{◌-◌, length}
use Rattle.rbac_paths.specs.Aims.{aim_of}
use Rattle.rbac_paths.specs.Reasons.{NoneBefore}
use Rattle.rbac_paths.proofs.reason.first_serving.Given as goal

abbrev pub invariant-loop-start : goal.invariant-loop-start
invariant-loop-start l = NoneBefore l.policy (aim_of l.aim) l.who l.from

abbrev pub decreases-loop-start : goal.decreases-loop-start
decreases-loop-start l = length l.policy.grants - l.from
