use Rattle.std.proofs.Common.{◌≡◌, ◌++◌, take, filter, is_none}
use Rattle.std.specs.List.{flat_map}
use Rattle.rbac_lists.proofs.naming.put_of_cluster_roles.Given as goal

abbrev pub invariant-loop-role : goal.invariant-loop-role
invariant-loop-role g l = l.list.items ≡ l.initial.list.items ++ flat_map (λ r. flat_map g.N.Naming.named r.rules) (filter (λ r. is_none r.aggregation) (take l.role-index l.roles))
