use Rattle.rbac_diff.proofs.ThereAre.{there_are}
use Rattle.rbac_diff.proofs.laws.a_list_of_changes_is_there.Goals as goal

pub returns : goal.returns
returns c = there_are
