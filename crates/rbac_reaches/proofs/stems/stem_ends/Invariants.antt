use Rattle.std.proofs.Common.{◌-◌, ◌≤◌, length}
use Rattle.rbac_reaches.specs.Matched.{AreStemEnds}
use Rattle.rbac_reaches.proofs.stems.stem_ends.Given as goal

abbrev pub invariant-loop-at : goal.invariant-loop-at
invariant-loop-at l = AreStemEnds l.targets 0 l.at l.ends.items × (l.at ≤ length l.targets)

abbrev pub decreases-loop-at : goal.decreases-loop-at
decreases-loop-at l = length l.targets - l.at
