use Rattle.std.proofs.Common.{◌-◌, ◌<◌, ◌≤◌, ℕ}
use Rattle.rbac_matrix.specs.VerbPlaces.{LacksPlace}
use Rattle.rbac_matrix.proofs.verb_places.VerbPlaces.past_had.Given as goal

abbrev pub invariant-loop-place : goal.invariant-loop-place
invariant-loop-place l = record {
  within : (l.from ≤ l.place) × (l.place ≤ l.end);
  had : (q : ℕ) → l.from ≤ q → q < l.place → LacksPlace l.self.words.items q → ⊥;
}

abbrev pub decreases-loop-place : goal.decreases-loop-place
decreases-loop-place l = l.end - l.place
