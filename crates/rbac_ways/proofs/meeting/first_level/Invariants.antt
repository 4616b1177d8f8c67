use Rattle.std.proofs.Common.{Contains, [], take}
use Rattle.rbac_ways.specs.Meeting.{IsFirstStop, MeetsNodes}
use Rattle.rbac_ways.proofs.meeting.first_level.Given as goal

abbrev pub invariant-loop-start : goal.invariant-loop-start
invariant-loop-start l =
    MeetsNodes (Contains (take l.start-index l.starts)) (IsFirstStop (take l.start-index l.starts)) l.initial.stops.items l.stops.items [] l.level.items
