use Rattle.rbac_lint.specs.RulesByWord.{AreRulesListed}
use Rattle.rbac_lint.proofs.rules_by_word.lists_of.Given as goal

abbrev pub invariant-loop-place : goal.invariant-loop-place
invariant-loop-place l = AreRulesListed l.field l.rules l.place l.lists
