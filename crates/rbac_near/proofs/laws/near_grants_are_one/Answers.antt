use Rattle.rbac_near.proofs.InOrder.{one_near_list}
use Rattle.rbac_near.proofs.laws.near_grants_are_one.Goals as goal

pub returns : goal.returns
returns c = one_near_list
