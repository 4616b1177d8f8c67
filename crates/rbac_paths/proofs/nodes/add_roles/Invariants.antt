use Rattle.std.proofs.Common.{Any, take}
use Rattle.rbac_paths.specs.AddingNodes.{AddsNodes, IsBoundRole}
use Rattle.rbac_paths.proofs.nodes.add_roles.Given as goal

abbrev pub invariant-loop-role : goal.invariant-loop-role
invariant-loop-role l = AddsNodes (λ y. Any (λ role. IsBoundRole l.policy l.names role y) (take l.role-index l.role-items)) l.initial.nodes l.nodes
