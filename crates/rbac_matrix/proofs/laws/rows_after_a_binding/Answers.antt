use Rattle.rbac_matrix.proofs.JoinLemmas.{stands_past}
use Rattle.rbac_matrix.proofs.laws.rows_after_a_binding.Goals as goal

pub returns : goal.returns
returns c = stands_past
