use Rattle.std.proofs.Common.{◌≡◌, ◌++◌, take}
use Rattle.std.specs.List.{flat_map}
use Rattle.rbac_lists.proofs.derived_lists.put_entry_verbs.Given as goal

abbrev pub invariant-loop-entry : goal.invariant-loop-entry
invariant-loop-entry l = l.list.items ≡ l.initial.list.items ++ flat_map (λ e. e.verbs) (take l.entry-index l.entries)
