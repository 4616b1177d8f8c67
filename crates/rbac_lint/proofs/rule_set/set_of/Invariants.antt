use Rattle.std.proofs.Common.{take}
use Rattle.rbac_lint.specs.Gathering.{rules_at}
use Rattle.rbac_lint.specs.RuleSets.{IsSetOf}
use Rattle.rbac_lint.proofs.rule_set.set_of.Given as goal

abbrev pub invariant-loop-rule : goal.invariant-loop-rule
invariant-loop-rule l = IsSetOf (rules_at (take l.rule-index l.rules)) l.set
