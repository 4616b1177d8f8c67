use Rattle.rbac_use.proofs.LeastAllowed.{one_least}
use Rattle.rbac_use.proofs.laws.least_is_one.Goals as goal

pub returns : goal.returns
returns c = one_least
