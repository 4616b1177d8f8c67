use Rattle.std.proofs.Common.{◌≡◌, Any, take}
use Rattle.rbac_paths.specs.AddingNodes.{AddsNodes}
use Rattle.rbac_paths.specs.Nodes.{Somebody}
use Rattle.rbac_paths.proofs.nodes.add_principals.Given as goal

abbrev pub invariant-loop-who : goal.invariant-loop-who
invariant-loop-who l = AddsNodes (λ y. Any (λ who. y ≡ Somebody who.now) (take l.who-index l.principals)) l.initial.nodes l.nodes
