use Rattle.std.proofs.Common.{◌≡◌, ◌⊎◌, ℕ, ◌<◌, ◌≤◌}
use Rattle.rbac_matrix.specs.Shown.{line_of}
use Rattle.rbac_matrix.specs.Cursors.{IsWithin, steps_left}
use Rattle.rbac_matrix.specs.Seats.{AreSeatedBefore, Costs, seat_at}
use Rattle.rbac_matrix.proofs.advance.advance_in_to.Given as goal

abbrev pub invariant-loop-no : goal.invariant-loop-no
invariant-loop-no l = record {
  seated : AreSeatedBefore l.basis.index.now (line_of l.line) l.basis.reaches.now l.place l.seats;
  costs : Costs 0 0 l.fn.seats l.seats l.fn.meter l.meter;
  passed : (k : ℕ) → l.block.walk.next ≤ k → k < l.walk.next → l.place ≤ (seat_at l.seats k).place;
  others : (k : ℕ) → (k < l.block.walk.next) ⊎ (l.block.end ≤ k) → seat_at l.seats k ≡ seat_at l.fn.seats k;
  within : IsWithin l.basis.index.now (line_of l.line) l.runs l.walk;
  on : l.block.walk.next ≤ l.walk.next;
}

abbrev pub decreases-loop-no : goal.decreases-loop-no
decreases-loop-no l = steps_left l.basis.index.now l.walk
