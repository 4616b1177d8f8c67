use Rattle.std.proofs.Common.{◌≡◌, ◌++◌, take}
use Rattle.rbac_lists.proofs.texts.put_words.Given as goal

abbrev pub invariant-loop-word : goal.invariant-loop-word
invariant-loop-word l = l.list.items ≡ l.initial.list.items ++ take l.word-index l.words
