use Rattle.std.proofs.Common.{◌-◌, ◌≤◌, ℕ}
use Rattle.rbac_subjects.specs.Keyed.{AddsPlaces, IsFirstEntry, keyed}
use Rattle.rbac_subjects.proofs.KeyedLemmas.{IsSeen}
use Rattle.rbac_subjects.proofs.named_places.push_under.Given as goal

abbrev pub invariant-loop-at : goal.invariant-loop-at
invariant-loop-at l = record {
  low : (first : ℕ) × IsFirstEntry l.entries (keyed l.key 0) first × (first ≤ l.at);
  seen : AddsPlaces (IsSeen l.entries l.key 0 l.end l.at) l.fn.places.items l.places.items;
}

abbrev pub decreases-loop-at : goal.decreases-loop-at
decreases-loop-at l = l.past - l.at
