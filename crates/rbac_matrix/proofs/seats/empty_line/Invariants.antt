use Rattle.std.proofs.Common.{◌≡◌, ℕ, ◌<◌, ◌⊎◌, length}
use Rattle.rbac_matrix.specs.Shown.{line_of}
use Rattle.rbac_matrix.specs.Cursors.{IsAhead, IsWithin, steps_left}
use Rattle.rbac_matrix.specs.Seats.{empty_seat, seat_at}
use Rattle.rbac_matrix.proofs.seats.empty_line.Given as goal

abbrev pub invariant-loop-no : goal.invariant-loop-no
invariant-loop-no l = record {
  emptied : (k : ℕ) → k < length l.seats → IsAhead l.index (line_of l.line) l.walk k ⊎ (seat_at l.seats k ≡ empty_seat);
  within : IsWithin l.index (line_of l.line) l.runs l.walk;
}

abbrev pub decreases-loop-no : goal.decreases-loop-no
decreases-loop-no l = steps_left l.index l.walk
