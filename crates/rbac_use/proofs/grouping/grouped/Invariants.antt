use Rattle.std.proofs.Common.{Contains, take}
use Rattle.rbac_use.specs.Grouping.{AreGrouped}
use Rattle.rbac_use.proofs.grouping.grouped.Given as goal

abbrev pub invariant-loop-pair : goal.invariant-loop-pair
invariant-loop-pair l = AreGrouped (λ x. Contains (take l.pair-index l.pair-items) x) l.groups.items
