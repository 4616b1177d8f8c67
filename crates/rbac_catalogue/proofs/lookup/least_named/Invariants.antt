use Rattle.std.proofs.Common.{take}
use Rattle.std.specs.Option.{option_copied}
use Rattle.rbac_catalogue.specs.Lookups.{IsNamedInGroup}
use Rattle.rbac_catalogue.proofs.Least.{IsLeastSoFar}
use Rattle.rbac_catalogue.proofs.lookup.least_named.Given as goal

abbrev pub invariant-loop-entry : goal.invariant-loop-entry
invariant-loop-entry l =
    IsLeastSoFar (IsNamedInGroup (option_copied l.group) l.word) (take l.entry-index l.entries) (option_copied l.least)
