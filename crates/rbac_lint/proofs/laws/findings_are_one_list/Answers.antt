use Rattle.rbac_lint.specs.Findings.{IsFinding}
use Rattle.rbac_lint.proofs.OneLines.{one_shown}
use Rattle.rbac_lint.proofs.laws.findings_are_one_list.Goals as goal

pub returns : goal.returns
returns c = λ held replaced found others a b. one_shown (IsFinding held replaced) found others a b
