use Rattle.rbac_rules.proofs.Deciding.{decided_there, decided_anywhere, decided_cluster_wide}
use Rattle.rbac_rules.proofs.laws.effective_rules_decide.Goals as goal

pub returns-clause-there : goal.returns-clause-there
returns-clause-there c = λ p who namespace xs ok are. decided_there p ok who namespace xs are

pub returns-clause-anywhere : goal.returns-clause-anywhere
returns-clause-anywhere c = λ p who namespace xs ok are. decided_anywhere p ok who namespace xs are

pub returns-clause-cluster_wide : goal.returns-clause-cluster_wide
returns-clause-cluster_wide c = λ p who xs ok are. decided_cluster_wide p ok who xs are
