use Rattle.std.proofs.Common.{Contains}
use Rattle.rbac_subjects.specs.Keyed.{IsLiveUnderAny}
use Rattle.rbac_subjects.specs.Least.{Takes, no_places}
use Rattle.rbac_subjects.proofs.first_places.first_places.Given as goal

abbrev pub invariant-loop-key : goal.invariant-loop-key
invariant-loop-key l = Takes (IsLiveUnderAny l.entries l.live (Contains l.yielded)) no_places l.places
