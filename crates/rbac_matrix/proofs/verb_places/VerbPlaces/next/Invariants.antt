use Rattle.std.proofs.Common.{◌-◌, ◌/◌, ◌<◌, ◌≤◌, ℕ, length}
use Rattle.rbac_matrix.specs.VerbPlaces.{LacksPlace}
use Rattle.rbac_matrix.proofs.verb_places.VerbPlaces.next.Given as goal

abbrev pub invariant-loop-place : goal.invariant-loop-place
invariant-loop-place l = record {
  on : l.from ≤ l.place;
  none : (q : ℕ) → l.from ≤ q → q < l.place → LacksPlace l.self.words.items q;
}

abbrev pub decreases-loop-place : goal.decreases-loop-place
decreases-loop-place l = length l.self.words.items - l.place / 64
