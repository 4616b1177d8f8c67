use Rattle.rbac_diff.proofs.OneChanges.{one_changes}
use Rattle.rbac_diff.proofs.laws.changes_are_one.Goals as goal

pub returns : goal.returns
returns c = one_changes
