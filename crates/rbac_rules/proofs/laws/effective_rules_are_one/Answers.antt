use Rattle.rbac_rules.proofs.RuleLists.{one_list}
use Rattle.rbac_rules.proofs.laws.effective_rules_are_one.Goals as goal

pub returns : goal.returns
returns c = λ p who scope. one_list who scope p.grants
