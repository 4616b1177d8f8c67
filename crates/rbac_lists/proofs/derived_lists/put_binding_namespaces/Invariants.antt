use Rattle.std.proofs.Common.{◌≡◌, ◌++◌, take}
use Rattle.std.specs.List.{filter_map}
use Rattle.rbac_lists.proofs.derived_lists.put_binding_namespaces.Given as goal

abbrev pub invariant-loop-binding : goal.invariant-loop-binding
invariant-loop-binding l = l.list.items ≡ l.initial.list.items ++ filter_map (λ b. b.namespace) (take l.binding-index l.bindings)
