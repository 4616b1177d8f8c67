use Rattle.std.proofs.Common.{Contains, take}
use Rattle.rbac_ways.specs.Meeting.{IsOneOf, MeetsNodes}
use Rattle.rbac_ways.proofs.meeting.meet_each.Given as goal

abbrev pub invariant-loop-node : goal.invariant-loop-node
invariant-loop-node l =
    MeetsNodes (Contains (take l.node-index l.nodes)) (IsOneOf (Contains (take l.node-index l.nodes)) l.stop) l.initial.stops.items l.stops.items l.initial.level.items l.level.items
