use Rattle.std.proofs.Common.{◌+◌, length}
use Rattle.rbac_ways.specs.Joining.{AreLists, HasSet}
use Rattle.rbac_ways.proofs.joining.lists_of.Given as goal

abbrev pub invariant-loop-place : goal.invariant-loop-place
invariant-loop-place l = AreLists (HasSet l.words l.lists) (length l.lists + l.place) l.all.items
