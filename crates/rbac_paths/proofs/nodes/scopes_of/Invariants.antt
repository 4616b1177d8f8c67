use Rattle.std.proofs.Common.{map, take}
use Rattle.std.specs.Option.{option_copied}
use Rattle.rbac_paths.proofs.Scopes.{AreScopesOf}
use Rattle.rbac_paths.proofs.nodes.scopes_of.Given as goal

abbrev pub invariant-loop-binding : goal.invariant-loop-binding
invariant-loop-binding l = AreScopesOf (take l.binding-index l.binding-items) (map (λ s. option_copied s) l.scopes.items) (option_copied l.last)
