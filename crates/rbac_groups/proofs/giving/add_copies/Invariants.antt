use Rattle.std.proofs.Common.{◌≡◌, ◌++◌, take}
use Rattle.rbac_groups.proofs.giving.add_copies.Given as goal

abbrev pub invariant-loop-word : goal.invariant-loop-word
invariant-loop-word l = l.list ≡ l.initial.list ++ take l.word-index l.words
