use Rattle.rbac_index.proofs.ListedLaw.{grants_by_holders}
use Rattle.rbac_index.proofs.laws.listed_holders_decide.Goals as goal

pub returns : goal.returns
returns c = grants_by_holders
