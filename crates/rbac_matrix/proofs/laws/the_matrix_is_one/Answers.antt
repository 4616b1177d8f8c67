use Rattle.rbac_matrix.proofs.OneMatrix.{one_matrix}
use Rattle.rbac_matrix.proofs.laws.the_matrix_is_one.Goals as goal

pub returns : goal.returns
returns c = one_matrix
