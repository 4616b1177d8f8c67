use Rattle.std.proofs.Common.{◌-◌, length}
use Rattle.rbac_paths.proofs.GivenGrants.{AreGivenBefore}
use Rattle.rbac_paths.proofs.holding.of_somebody.Given as goal

abbrev pub invariant-loop-start : goal.invariant-loop-start
invariant-loop-start l = AreGivenBefore l.policy l.who l.from l.holdings.items

abbrev pub decreases-loop-start : goal.decreases-loop-start
decreases-loop-start l = length l.policy.grants - l.from
