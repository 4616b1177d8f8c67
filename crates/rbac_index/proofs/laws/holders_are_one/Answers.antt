use Rattle.rbac_index.proofs.OneHolders.{one_holders}
use Rattle.rbac_index.proofs.laws.holders_are_one.Goals as goal

pub returns : goal.returns
returns c = one_holders
