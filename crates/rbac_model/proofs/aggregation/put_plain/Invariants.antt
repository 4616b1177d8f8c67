use Rattle.rbac_model.specs.Graphs.{HasPlace}
use Rattle.rbac_model.specs.Lists.{IsUpTo}
use Rattle.rbac_model.specs.Places.{IsPlainAt}
use Rattle.rbac_model.proofs.aggregation.put_plain.Given as goal

abbrev pub invariant-loop-place : goal.invariant-loop-place
invariant-loop-place l = IsUpTo (λ k. HasPlace l.places k × IsPlainAt l.roles k) l.row.items l.place
