use Rattle.rbac_matrix.proofs.OneEvery.{some_every}
use Rattle.rbac_matrix.proofs.laws.every_rows_are_there.Goals as goal

pub returns : goal.returns
returns c = λ p u is universe. some_every p is u universe
