use Rattle.std.proofs.Common.{[], take}
use Rattle.rbac_ways.specs.Meeting.{ArePassed, IsAfterLeast, IsNextTo, MeetsNodes}
use Rattle.rbac_ways.proofs.meeting.next_level.Given as goal

abbrev pub invariant-loop-node : goal.invariant-loop-node
invariant-loop-node l = record {
  passed : ArePassed l.graph l.passed.lists.items l.passed.sets.items l.stops.items;
  meets : MeetsNodes (IsNextTo l.graph (take l.node-index l.level)) (IsAfterLeast l.graph (take l.node-index l.level) l.edges) l.initial.stops.items l.stops.items [] l.next.items;
}
