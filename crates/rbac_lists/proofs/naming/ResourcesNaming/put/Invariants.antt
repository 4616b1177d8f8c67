use Rattle.std.proofs.Common.{◌≡◌, ◌++◌, take, filter, not}
use Rattle.std.specs.List.{flat_map}
use Rattle.rbac_lists.specs.Derived.{group_resources, has_star}
use Rattle.rbac_lists.proofs.naming.ResourcesNaming.put.Given as goal

abbrev pub invariant-loop-group : goal.invariant-loop-group
invariant-loop-group l = l.list.items ≡ l.initial.list.items ++ flat_map (group_resources l.rule.resources) (filter (λ group. not (has_star group)) (take l.group-index l.rule.groups))
