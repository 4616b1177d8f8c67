use Rattle.std.proofs.Common.{length}
use Rattle.rbac_ways.specs.Joining.{AreLists, TakesList}
use Rattle.rbac_ways.proofs.joining.takes_of.Given as goal

abbrev pub invariant-loop-node : goal.invariant-loop-node
invariant-loop-node l = AreLists (TakesList (length l.lists) (length l.also) l.takes l.own) l.node l.all.items
