use Rattle.std.proofs.Common.{Bor, Contains, map, take}
use Rattle.rbac_terms.specs.declared.granting.ClusterRole.{ClusterRole}
use Rattle.rbac_paths.proofs.Kept.{AreKept}
use Rattle.rbac_paths.proofs.nodes.named_cluster_roles.Given as goal

abbrev pub invariant-loop-role : goal.invariant-loop-role
invariant-loop-role l = AreKept (λ (role : ClusterRole). Contains l.names role.name) (take l.role-index l.role-items) (map (λ (each : Bor ClusterRole). each.now) l.named.items)
