use Rattle.rbac_ways.specs.Joining.{IsListedAt}
use Rattle.rbac_ways.proofs.Turning.{AreListedBelow}
use Rattle.rbac_ways.proofs.joining.turned.Given as goal

abbrev pub invariant-loop-place : goal.invariant-loop-place
invariant-loop-place l = AreListedBelow (IsListedAt l.lists) l.count l.place l.turned.items
