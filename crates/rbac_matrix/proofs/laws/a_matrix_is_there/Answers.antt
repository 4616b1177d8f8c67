use Rattle.rbac_matrix.proofs.SomeMatrix.{some_matrix}
use Rattle.rbac_matrix.proofs.laws.a_matrix_is_there.Goals as goal

pub returns : goal.returns
returns c = λ p u is universe. some_matrix p is u universe
