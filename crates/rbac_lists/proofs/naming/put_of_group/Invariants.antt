use Rattle.std.proofs.Common.{◌≡◌, ◌++◌, take}
use Rattle.rbac_lists.specs.Derived.{group_resources}
use Rattle.rbac_lists.proofs.naming.put_of_group.Given as goal

abbrev pub invariant-loop-word : goal.invariant-loop-word
invariant-loop-word l = l.list.items ≡ l.initial.list.items ++ group_resources (take l.word-index l.words) l.group
