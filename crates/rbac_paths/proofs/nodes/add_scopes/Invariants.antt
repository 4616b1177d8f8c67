use Rattle.std.proofs.Common.{Any, take}
use Rattle.std.specs.Option.{option_copied}
use Rattle.rbac_paths.specs.AddingNodes.{AddsNodes, IsInScope}
use Rattle.rbac_paths.proofs.nodes.add_scopes.Given as goal

abbrev pub invariant-loop-scope : goal.invariant-loop-scope
invariant-loop-scope l = AddsNodes (λ y. Any (λ scope. IsInScope l.roles.items (option_copied scope) y) (take l.scope-index l.scope-items)) l.initial.nodes l.nodes
