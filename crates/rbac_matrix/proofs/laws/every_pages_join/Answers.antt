use Rattle.rbac_matrix.proofs.JoinLemmas.{every_pages_join}
use Rattle.rbac_matrix.proofs.laws.every_pages_join.Goals as goal

pub returns : goal.returns
returns c = every_pages_join
