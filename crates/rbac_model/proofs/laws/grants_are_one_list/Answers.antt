use Rattle.rbac_model.proofs.OneList.{one_grants}
use Rattle.rbac_model.proofs.laws.grants_are_one_list.Goals as goal

pub returns : goal.returns
returns c = λ held is gs others are all. one_grants held held.bindings gs others is are all
