use Rattle.std.proofs.Common.{arith}
use Rattle.rbac_matrix.proofs.SeatLemmas.{next_costs, seated_after, stands_within}
use Rattle.rbac_matrix.proofs.seat.seat_after.Goals as goal

pub seat_in-requires : goal.seat_in-requires
seat_in-requires c = omega (arith, stands_within c.args.reach.now c.args.seat.place c.args.seat c.requires.seated c.requires.stands)

pub returns-clause-seated : goal.returns-clause-seated
returns-clause-seated c =
    seated_after c.args.reach.now c.args.seat c.seat_in.result c.seat_in.ensures.ascending c.requires.seated c.requires.stands c.seat_in.ensures.position (rw c.seat_in.ensures.position c.seat_in.ensures.place)
    (stands_within c.args.reach.now c.args.seat.place c.args.seat c.requires.seated c.requires.stands)

pub returns-clause-costs : goal.returns-clause-costs
returns-clause-costs c =
    next_costs c.args.reach.now c.args.seat c.seat_in.result c.args.meter.now c.seat_in.new.meter c.requires.stands c.seat_in.ensures.position (rw c.seat_in.ensures.position c.seat_in.ensures.place) (rw c.seat_in.ensures.position c.seat_in.ensures.read) (rw c.seat_in.ensures.position c.seat_in.ensures.unread) c.requires.real
