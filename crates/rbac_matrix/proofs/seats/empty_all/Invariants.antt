use Rattle.std.proofs.Common.{◌≡◌, ℕ, ◌<◌}
use Rattle.rbac_matrix.specs.Seats.{empty_seat, seat_at}
use Rattle.rbac_matrix.proofs.seats.empty_all.Given as goal

abbrev pub invariant-loop-no : goal.invariant-loop-no
invariant-loop-no l = (k : ℕ) → k < l.no → seat_at l.seats k ≡ empty_seat
