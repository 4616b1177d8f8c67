use Rattle.rbac_use.proofs.LeastAllowed.{allows_needed}
use Rattle.rbac_use.proofs.laws.least_allows_what_is_needed.Goals as goal

pub returns : goal.returns
returns c = allows_needed
