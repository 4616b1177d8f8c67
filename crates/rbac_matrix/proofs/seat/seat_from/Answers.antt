use Rattle.rbac_matrix.proofs.SeatLemmas.{none_read, seated_first, start_costs}
use Rattle.rbac_matrix.proofs.seat.seat_from.Goals as goal

pub returns-then-from-eq0-clause-started : goal.returns-then-from-eq0-clause-started
returns-then-from-eq0-clause-started c = λ _. start_costs c.args.reach.now c.seat_in.result 0 0 c.args.meter.now c.args.meter.now c.seat_in.new.meter c.requires.real (none_read 0 c.args.meter.now) c.seat_in.ensures.position c.seat_in.ensures.place c.seat_in.ensures.read c.seat_in.ensures.unread

pub returns-clause-seated : goal.returns-clause-seated
returns-clause-seated c = seated_first c.args.reach.now c.args.from c.seek-position.result c.seat_in-2.result c.seek-position.ensures.first c.requires.from c.seat_in-2.ensures.position c.seat_in-2.ensures.place

pub returns-clause-sought : goal.returns-clause-sought
returns-clause-sought c = start_costs c.args.reach.now c.seat_in-2.result c.seek-position.result 20 c.args.meter.now c.seek-position.new.meter c.seat_in-2.new.meter c.requires.real c.seek-position.ensures.reads c.seat_in-2.ensures.position c.seat_in-2.ensures.place c.seat_in-2.ensures.read c.seat_in-2.ensures.unread
