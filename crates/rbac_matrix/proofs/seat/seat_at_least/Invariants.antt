use Rattle.std.proofs.Common.{◌-◌}
use Rattle.rbac_matrix.specs.Seats.{IsSeatedBefore, SeatCosts}
use Rattle.rbac_matrix.proofs.seat.seat_at_least.Given as goal

abbrev pub invariant-loop-seat : goal.invariant-loop-seat
invariant-loop-seat l = record {
  before : IsSeatedBefore l.reach l.place l.seat;
  costs : SeatCosts 0 0 l.fn.seat l.seat l.fn.meter l.meter;
}

abbrev pub decreases-loop-seat : goal.decreases-loop-seat
decreases-loop-seat l = l.place - l.seat.place
