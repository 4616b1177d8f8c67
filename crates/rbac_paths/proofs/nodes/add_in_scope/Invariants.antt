use Rattle.std.proofs.Common.{◌≡◌, Any, take}
use Rattle.std.specs.Option.{option_copied}
use Rattle.rbac_paths.specs.AddingNodes.{AddsNodes}
use Rattle.rbac_paths.specs.Nodes.{ClusterRoleIn}
use Rattle.rbac_paths.proofs.nodes.add_in_scope.Given as goal

abbrev pub invariant-loop-role : goal.invariant-loop-role
invariant-loop-role l = AddsNodes (λ y. Any (λ role. y ≡ ClusterRoleIn role.now (option_copied l.scope)) (take l.role-index l.roles)) l.initial.nodes l.nodes
