use Rattle.rbac_document.proofs.SameEntries.{same_universe, same_fault}
use Rattle.rbac_document.proofs.laws.once_each_is_the_same_universe.Goals as goal

pub returns-clause-universe : goal.returns-clause-universe
returns-clause-universe c = same_universe

pub returns-clause-fault : goal.returns-clause-fault
returns-clause-fault c = same_fault
