use Rattle.std.proofs.Common.{◌≡◌, ◌++◌, take}
use Rattle.std.specs.List.{flat_map}
use Rattle.rbac_document.proofs.entry.put_others.Given as goal

abbrev pub invariant-loop-entry : goal.invariant-loop-entry
invariant-loop-entry g l = l.document.items ≡ l.initial.document.items ++ flat_map (λ entry. l.between ++ g.T.Entry.text entry) (take l.entry-index l.others)
