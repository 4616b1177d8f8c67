use Rattle.std.proofs.Common.{◌+◌, arith}
use Rattle.rbac_matrix.proofs.SeatLemmas.{seat_costs_none, seat_costs_then, seated_before, seated_here}
use Rattle.rbac_matrix.proofs.seat.seat_at_least.Goals as goal

pub loop-seat-init : goal.loop-seat-init
loop-seat-init c = record {
  before = c.requires.before;
  costs = seat_costs_none c.args.seat c.args.meter.now;
}

pub seat_after-seat-requires-clause-seated : goal.seat_after-seat-requires-clause-seated
seat_after-seat-requires-clause-seated c = seated_here c.args.reach.now c.args.place c.loop-seat.seat c.loop-seat.invariant.before

pub loop-seat-preserved : goal.loop-seat-preserved
loop-seat-preserved c = record {
  before = (c.loop-seat.seat.place + 1, omega (arith, c.loop-seat-test.true), c.seat_after-seat.ensures.seated);
  costs = seat_costs_then c.args.seat c.loop-seat.seat c.seat_after-seat.result 1 c.args.meter.now c.loop-seat.meter c.seat_after-seat.new.meter c.loop-seat.invariant.costs c.seat_after-seat.ensures.costs;
}

pub loop-seat-smaller : goal.loop-seat-smaller
loop-seat-smaller c = omega (arith, c.loop-seat-test.true, c.seat_after-seat.ensures.seated.ahead)

pub returns-clause-seated : goal.returns-clause-seated
returns-clause-seated c = seated_before c.args.reach.now c.args.place c.loop-seat.seat c.loop-seat.invariant.before (omega (arith, c.loop-seat-test.false))
