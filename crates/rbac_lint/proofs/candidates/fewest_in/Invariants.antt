use Rattle.std.specs.Prelude.{List, IfSome}
use Rattle.rbac_terms.specs.declared.matching.Rule.{Rule}
use Rattle.rbac_lint.specs.RulesByWord.{AreRulesByWord}
use Rattle.rbac_lint.specs.Candidates.{Binds, IncludeCovers}
use Rattle.rbac_lint.proofs.candidates.fewest_in.Given as goal

abbrev pub invariant-loop-word : goal.invariant-loop-word
invariant-loop-word l = (rules : List Rule) → AreRulesByWord rules l.by_word → Binds l.field l.rule → IfSome l.fn.best (IncludeCovers rules l.rule) → IfSome l.fewest (IncludeCovers rules l.rule)
