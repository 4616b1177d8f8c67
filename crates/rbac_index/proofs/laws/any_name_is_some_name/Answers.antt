use Rattle.rbac_index.proofs.NameLemmas.{some_name}
use Rattle.rbac_index.proofs.laws.any_name_is_some_name.Goals as goal

pub returns : goal.returns
returns c = some_name
