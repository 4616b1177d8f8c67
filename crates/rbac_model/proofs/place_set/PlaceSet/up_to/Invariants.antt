use Rattle.std.proofs.Common.{ℕ, ◌<◌, ◌↔◌}
use Rattle.rbac_model.specs.Graphs.{HasPlace}
use Rattle.rbac_model.proofs.place_set.PlaceSet.up_to.Given as goal

abbrev pub invariant-loop-place : goal.invariant-loop-place
invariant-loop-place l = (k : ℕ) → HasPlace l.places k ↔ (k < l.place)
