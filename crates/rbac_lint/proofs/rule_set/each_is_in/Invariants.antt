use Rattle.std.proofs.Common.{All, take}
use Rattle.rbac_lint.specs.RuleSets.{IsIn}
use Rattle.rbac_lint.proofs.rule_set.each_is_in.Given as goal

abbrev pub invariant-loop-rule : goal.invariant-loop-rule
invariant-loop-rule l = All (λ rule. IsIn l.set rule.now) (take l.rule-index l.rules)
