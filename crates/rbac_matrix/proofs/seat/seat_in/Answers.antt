use Rattle.rbac_matrix.proofs.seat.seat_in.Goals as goal

pub returns-then-position-len-clause-read : goal.returns-then-position-len-clause-read
returns-then-position-len-clause-read c = λ _. c.place.ensures.read
