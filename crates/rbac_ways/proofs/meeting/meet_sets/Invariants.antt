use Rattle.std.proofs.Common.{◌≡◌, length, take}
use Rattle.rbac_ways.specs.Meeting.{AreMet, IsOneOf, MeetsNodes, SetHas, SomeHas}
use Rattle.rbac_ways.proofs.meeting.meet_sets.Given as goal

abbrev pub invariant-loop-set : goal.invariant-loop-set
invariant-loop-set l = record {
  sets : length l.passed.items ≡ length l.graph.sets;
  met : AreMet (SetHas l.graph) l.passed.items l.stops.items;
  meets : MeetsNodes (SomeHas (SetHas l.graph) (take l.set-index l.sets)) (IsOneOf (SomeHas (SetHas l.graph) (take l.set-index l.sets)) l.stop) l.initial.stops.items l.stops.items l.initial.level.items l.level.items;
}
