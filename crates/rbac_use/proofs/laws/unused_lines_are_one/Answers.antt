use Rattle.rbac_use.proofs.Needed.{one_list_of_lines}
use Rattle.rbac_use.proofs.laws.unused_lines_are_one.Goals as goal

pub returns : goal.returns
returns c = one_list_of_lines
