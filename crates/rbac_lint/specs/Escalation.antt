-- The verbs that let a subject grant more than it has, and what they are used on (Using RBAC
-- Authorization, Privilege escalation prevention and bootstrapping).
use Rattle.std.specs.Prelude.{codes}
use Rattle.rbac_lint.specs.declared.escalation.EscalationWords.{EscalationWords}

-- `bind` and `escalate`, the RBAC group, and its roles and cluster roles
abbrev pub escalation_words : EscalationWords
escalation_words = record {
  bind = codes "bind";
  escalate = codes "escalate";
  group = codes "rbac.authorization.k8s.io";
  roles = codes "roles";
  cluster_roles = codes "clusterroles";
}
