use Rattle.std.proofs.Common.{Contains}
use Rattle.rbac_subjects.proofs.NamedLemmas.{AreUnder}
use Rattle.rbac_subjects.proofs.named_places.places_under.Given as goal

abbrev pub invariant-loop-key : goal.invariant-loop-key
invariant-loop-key l = AreUnder l.entries (Contains l.yielded) l.end l.places.items
