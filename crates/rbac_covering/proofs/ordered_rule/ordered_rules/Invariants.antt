use Rattle.std.proofs.Common.{◌≡◌, take}
use Rattle.rbac_covering.proofs.ordered_rule.ordered_rules.Given as goal

abbrev pub invariant-loop-rule : goal.invariant-loop-rule
invariant-loop-rule l = l.ordered.items ≡ take l.rule-index l.rules
