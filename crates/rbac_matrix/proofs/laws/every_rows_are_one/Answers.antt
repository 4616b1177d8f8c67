use Rattle.rbac_matrix.proofs.OneEvery.{one_every}
use Rattle.rbac_matrix.proofs.laws.every_rows_are_one.Goals as goal

pub returns : goal.returns
returns c = one_every
