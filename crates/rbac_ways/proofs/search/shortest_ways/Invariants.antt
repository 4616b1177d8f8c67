use Rattle.std.proofs.Common.{◌+◌, ◌≤◌, length}
use Rattle.rbac_ways.specs.Meeting.{ArePassed, IsMetTo, unmet}
use Rattle.rbac_ways.proofs.Orders.{AreInOrderTo}
use Rattle.rbac_ways.proofs.search.shortest_ways.Given as goal

abbrev pub invariant-loop-alloc : goal.invariant-loop-alloc
invariant-loop-alloc l = record {
  met : IsMetTo l.graph l.starts l.edges l.stops.items l.level.items;
  passed : ArePassed l.graph l.passed.lists.items l.passed.sets.items l.stops.items;
  order : AreInOrderTo l.edges l.stops.items l.order.items;
  room : l.edges + (unmet l.stops.items + length l.level.items) ≤ length l.graph.takes;
}

abbrev pub decreases-loop-alloc : goal.decreases-loop-alloc
decreases-loop-alloc l = unmet l.stops.items + length l.level.items
