use Rattle.rbac_lint.proofs.OneLines.{one_wanted}
use Rattle.rbac_lint.proofs.Kept.{all_wanted}
use Rattle.rbac_lint.proofs.laws.wanted_findings_are_one_list.Goals as goal

pub returns-clause-one : goal.returns-clause-one
returns-clause-one c = λ wanted held replaced found others a b. one_wanted wanted held replaced found others a b

pub returns-clause-all : goal.returns-clause-all
returns-clause-all c = λ held replaced found. all_wanted held replaced found
