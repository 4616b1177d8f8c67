use Rattle.std.proofs.Common.{◌≡◌, ◌++◌, take}
use Rattle.std.specs.List.{flat_map}
use Rattle.rbac_lists.proofs.naming.put_of_rules.Given as goal

abbrev pub invariant-loop-rule : goal.invariant-loop-rule
invariant-loop-rule g l = l.list.items ≡ l.initial.list.items ++ flat_map g.N.Naming.named (take l.rule-index l.rules)
