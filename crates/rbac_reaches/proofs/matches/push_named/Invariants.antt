use Rattle.std.proofs.Common.{◌-◌, ◌≤◌}
use Rattle.rbac_reaches.specs.Reaches.{IsReachBelow}
use Rattle.rbac_reaches.proofs.matches.push_named.Given as goal

abbrev pub invariant-loop-at : goal.invariant-loop-at
invariant-loop-at l = IsReachBelow l.rule l.targets l.at l.spans × (l.at ≤ l.end) × (l.start ≤ l.at)

abbrev pub decreases-loop-at : goal.decreases-loop-at
decreases-loop-at l = l.end - l.at
