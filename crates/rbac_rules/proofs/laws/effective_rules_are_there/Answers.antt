use Rattle.rbac_rules.proofs.Decided.{are_there}
use Rattle.rbac_rules.proofs.laws.effective_rules_are_there.Goals as goal

pub returns : goal.returns
returns c = λ p who scope. are_there who scope p.grants
