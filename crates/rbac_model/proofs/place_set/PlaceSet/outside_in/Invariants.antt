use Rattle.std.proofs.Common.{ℕ, ◌<◌, ◌≤◌, ◌*◌}
use Rattle.rbac_model.specs.Graphs.{HasPlace}
use Rattle.rbac_model.proofs.place_set.PlaceSet.outside_in.Given as goal

abbrev pub invariant-loop-place : goal.invariant-loop-place
invariant-loop-place l = (k : ℕ) → l.at * 64 ≤ k → k < l.place → HasPlace l.self k → HasPlace l.other k
