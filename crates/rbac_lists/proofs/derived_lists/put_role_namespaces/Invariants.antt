use Rattle.std.proofs.Common.{◌≡◌, ◌++◌, take, map}
use Rattle.rbac_lists.proofs.derived_lists.put_role_namespaces.Given as goal

abbrev pub invariant-loop-role : goal.invariant-loop-role
invariant-loop-role l = l.list.items ≡ l.initial.list.items ++ map (λ r. r.namespace) (take l.role-index l.roles)
