use Rattle.std.proofs.Common.{refl}
use Rattle.rbac_matrix.proofs.seat.Seat.new.Goals as goal

pub returns : goal.returns
returns c = refl
