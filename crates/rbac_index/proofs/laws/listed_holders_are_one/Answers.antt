use Rattle.rbac_index.proofs.ListedLemmas.{one_listed, listed_holders}
use Rattle.rbac_index.proofs.laws.listed_holders_are_one.Goals as goal

pub returns-clause-one : goal.returns-clause-one
returns-clause-one c = one_listed

pub returns-clause-holders : goal.returns-clause-holders
returns-clause-holders c = listed_holders
