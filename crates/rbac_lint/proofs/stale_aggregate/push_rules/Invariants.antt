use Rattle.std.specs.Prelude.{◌≡◌, ◌++◌, take}
use Rattle.rbac_lint.specs.Gathering.{rules_at}
use Rattle.rbac_lint.proofs.stale_aggregate.push_rules.Given as goal

abbrev pub invariant-loop-rule : goal.invariant-loop-rule
invariant-loop-rule l = rules_at l.gathered.items ≡ rules_at l.initial.gathered.items ++ take l.rule-index l.rules
