use Rattle.rbac_index.proofs.HolderLaw.{allows_by_holders}
use Rattle.rbac_index.proofs.laws.holders_decide.Goals as goal

pub returns : goal.returns
returns c = allows_by_holders
