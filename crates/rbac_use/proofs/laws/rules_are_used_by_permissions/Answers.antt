use Rattle.rbac_use.proofs.Needed.{by_permissions}
use Rattle.rbac_use.proofs.laws.rules_are_used_by_permissions.Goals as goal

pub returns : goal.returns
returns c = by_permissions
