use Rattle.rbac_diff.proofs.Exchanging.{exchanged_changes}
use Rattle.rbac_diff.proofs.laws.losses_are_gains_exchanged.Goals as goal

pub returns : goal.returns
returns c = exchanged_changes
