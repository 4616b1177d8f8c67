use Rattle.std.proofs.Common.{◌*◌, length, min}
use Rattle.rbac_model.specs.Graphs.{HasPlace}
use Rattle.rbac_model.specs.Lists.{IsUpTo}
use Rattle.rbac_model.specs.Places.{IsPlainAt}
use Rattle.rbac_model.proofs.aggregation.plain_in.Given as goal

abbrev pub invariant-loop-at : goal.invariant-loop-at
invariant-loop-at l = IsUpTo (λ k. HasPlace l.places k × IsPlainAt l.roles k) l.row.items (min (l.at * 64) (length l.roles))
