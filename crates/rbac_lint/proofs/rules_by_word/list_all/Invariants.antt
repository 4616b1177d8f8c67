use Rattle.std.proofs.Common.{take}
use Rattle.rbac_lint.specs.RulesByWord.{ListsAll}
use Rattle.rbac_lint.proofs.rules_by_word.list_all.Given as goal

abbrev pub invariant-loop-word : goal.invariant-loop-word
invariant-loop-word l = ListsAll l.initial.lists l.lists l.field (take l.word-index l.words) l.place
