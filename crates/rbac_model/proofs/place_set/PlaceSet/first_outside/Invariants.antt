use Rattle.std.proofs.Common.{ℕ, ◌<◌, ◌/◌}
use Rattle.rbac_model.specs.Graphs.{HasPlace}
use Rattle.rbac_model.proofs.place_set.PlaceSet.first_outside.Given as goal

abbrev pub invariant-loop-at : goal.invariant-loop-at
invariant-loop-at l = (k : ℕ) → k / 64 < l.at → k < l.bound → HasPlace l.self k → HasPlace l.other k
