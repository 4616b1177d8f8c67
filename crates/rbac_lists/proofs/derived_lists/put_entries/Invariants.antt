use Rattle.std.proofs.Common.{◌≡◌, ◌++◌, take, map}
use Rattle.rbac_lists.specs.Derived.{as_listed}
use Rattle.rbac_lists.proofs.derived_lists.put_entries.Given as goal

abbrev pub invariant-loop-entry : goal.invariant-loop-entry
invariant-loop-entry l = l.list.items ≡ l.initial.list.items ++ map (λ e. as_listed e.group e.name e.namespaced) (take l.entry-index l.entries)
