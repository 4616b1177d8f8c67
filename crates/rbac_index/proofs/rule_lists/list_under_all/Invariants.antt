use Rattle.std.proofs.Common.{take}
use Rattle.rbac_index.specs.RuleLists.{ListsUnder}
use Rattle.rbac_index.proofs.rule_lists.list_under_all.Given as goal

abbrev pub invariant-loop-word : goal.invariant-loop-word
invariant-loop-word l = ListsUnder l.initial.lists l.lists (take l.word-index l.words) l.no
