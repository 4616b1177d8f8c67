use Rattle.std.proofs.Common.{ℕ, ◌-◌, ◌≤◌, ◌<◌, length, get_or}
use Rattle.std.specs.List.Sorted.{IsStrictlyIncreasing}
use Rattle.rbac_matrix.proofs.SeekLemmas.{Halved}
use Rattle.rbac_matrix.proofs.seat.seek.Given as goal

abbrev pub invariant-loop-low : goal.invariant-loop-low
invariant-loop-low l = record {
  order : l.low ≤ l.high;
  within : l.high ≤ length l.reach;
  ascending : IsStrictlyIncreasing l.reach;
  before : (k : ℕ) → k < l.low → get_or l.reach k 0 < l.from;
  after : (k : ℕ) → l.high ≤ k → k < length l.reach → l.from ≤ get_or l.reach k 0;
  halved : Halved (l.high - l.low) l.initial.meter l.meter;
}

abbrev pub decreases-loop-low : goal.decreases-loop-low
decreases-loop-low l = l.high - l.low
