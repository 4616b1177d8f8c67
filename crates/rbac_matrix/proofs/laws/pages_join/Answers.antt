use Rattle.rbac_matrix.proofs.JoinLemmas.{pages_join}
use Rattle.rbac_matrix.proofs.laws.pages_join.Goals as goal

pub returns : goal.returns
returns c = pages_join
