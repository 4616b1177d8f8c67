use Rattle.std.proofs.Common.{◌≡◌, ◌++◌, take}
use Rattle.std.specs.List.{flat_map}
use Rattle.rbac_lists.proofs.naming.put_of_roles.Given as goal

abbrev pub invariant-loop-role : goal.invariant-loop-role
invariant-loop-role g l = l.list.items ≡ l.initial.list.items ++ flat_map (λ r. flat_map g.N.Naming.named r.rules) (take l.role-index l.roles)
