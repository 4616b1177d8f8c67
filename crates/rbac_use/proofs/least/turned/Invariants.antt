use Rattle.std.proofs.Common.{◌↔◌, Any, Contains, take}
use Rattle.rbac_use.specs.LeastRules.{IsTurned}
use Rattle.rbac_use.specs.declared.grouping.Pair.{Pair}
use Rattle.rbac_use.proofs.least.turned.Given as goal

abbrev pub invariant-loop-group : goal.invariant-loop-group
invariant-loop-group l = (x : Pair) → Contains l.pairs.items x ↔ Any (λ g. IsTurned g x) (take l.group-index l.groups)
