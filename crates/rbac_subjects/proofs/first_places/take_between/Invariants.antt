use Rattle.std.proofs.Common.{◌-◌, ◌≤◌, ℕ, length}
use Rattle.rbac_subjects.specs.Keyed.{IsFirstEntry, keyed}
use Rattle.rbac_subjects.specs.Least.{Takes}
use Rattle.rbac_subjects.proofs.KeyedLemmas.{IsSeen}
use Rattle.rbac_subjects.proofs.first_places.take_between.Given as goal

abbrev pub invariant-loop-at : goal.invariant-loop-at
invariant-loop-at l = record {
  low : (first : ℕ) × IsFirstEntry l.entries (keyed l.key l.from) first × (first ≤ l.at);
  seen : Takes (IsSeen l.entries l.key l.from l.to l.at) l.fn.places l.places;
}

abbrev pub decreases-loop-at : goal.decreases-loop-at
decreases-loop-at l = length l.entries - l.at
