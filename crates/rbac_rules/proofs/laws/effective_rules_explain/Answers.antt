use Rattle.rbac_rules.proofs.Deciding.{explained_there, explained_anywhere, explained_cluster_wide}
use Rattle.rbac_rules.proofs.laws.effective_rules_explain.Goals as goal

pub returns-clause-there : goal.returns-clause-there
returns-clause-there c = λ p who. explained_there p who

pub returns-clause-anywhere : goal.returns-clause-anywhere
returns-clause-anywhere c = λ p who. explained_anywhere p who

pub returns-clause-cluster_wide : goal.returns-clause-cluster_wide
returns-clause-cluster_wide c = λ p who. explained_cluster_wide p who
