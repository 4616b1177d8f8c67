use Rattle.std.proofs.Common.{take}
use Rattle.rbac_paths.proofs.Kept.{AreKept}
use Rattle.rbac_paths.proofs.ListPlaces.{HasSome}
use Rattle.rbac_paths.proofs.deciding.granting_places.Given as goal

abbrev pub invariant-loop-place : goal.invariant-loop-place
invariant-loop-place l = AreKept (HasSome l.grants) (take l.place-index l.place-items) l.places.items
