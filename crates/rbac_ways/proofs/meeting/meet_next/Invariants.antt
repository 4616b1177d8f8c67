use Rattle.std.proofs.Common.{take}
use Rattle.rbac_ways.specs.Meeting.{ArePassed, IsOneOf, ListHas, MeetsNodes, SomeHas, stop_behind}
use Rattle.rbac_ways.proofs.meeting.meet_next.Given as goal

abbrev pub invariant-loop-list : goal.invariant-loop-list
invariant-loop-list l = record {
  passed : ArePassed l.graph l.passed.lists.items l.passed.sets.items l.stops.items;
  meets : MeetsNodes (SomeHas (ListHas l.graph) (take l.list-index l.list-items)) (IsOneOf (SomeHas (ListHas l.graph) (take l.list-index l.list-items)) (stop_behind l.edges l.node)) l.initial.stops.items l.stops.items l.initial.level.items l.level.items;
}
