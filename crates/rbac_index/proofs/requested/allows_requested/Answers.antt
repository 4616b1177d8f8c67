use Rattle.std.proofs.Common.{rules}
use Rattle.rbac_index.proofs.requested.allows_requested.Goals as goal

pub returns-in-AnyName : goal.returns-in-AnyName
returns-in-AnyName c = search rules
