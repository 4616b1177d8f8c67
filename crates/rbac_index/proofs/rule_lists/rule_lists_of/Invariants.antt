use Rattle.rbac_index.specs.Written.{bare_rules}
use Rattle.rbac_index.specs.RuleLists.{AreListed}
use Rattle.rbac_index.proofs.rule_lists.rule_lists_of.Given as goal

abbrev pub invariant-loop-no : goal.invariant-loop-no
invariant-loop-no l = AreListed (bare_rules l.rules) l.no l.lists
