use Rattle.std.proofs.lemmas.Result.{IfOk-weaker}
use Rattle.rbac_paths.proofs.RoleRules.{own_has}
use Rattle.rbac_paths.proofs.holding.holdings_of.Goals as goal

pub returns-in-Somebody : goal.returns-in-Somebody
returns-in-Somebody c = rw c.in-Somebody.is c.of_somebody.ensures

pub returns-in-ClusterRole : goal.returns-in-ClusterRole
returns-in-ClusterRole c = rw c.in-ClusterRole.is c.of_cluster_role.ensures

pub returns-in-Role : goal.returns-in-Role
returns-in-Role c = rw c.in-Role.is (IfOk-weaker c.with_rules.result _ _ (λ hs is. own_has c.args.policy.now c.in-Role.role.now hs.items is) c.with_rules.ensures)
