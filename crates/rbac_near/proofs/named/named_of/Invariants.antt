use Rattle.rbac_near.specs.Named.{AreNamedUpTo}
use Rattle.rbac_near.specs.Near.{request_of}
use Rattle.rbac_near.proofs.named.named_of.Given as goal

abbrev pub invariant-loop-place : goal.invariant-loop-place
invariant-loop-place l = AreNamedUpTo l.policy (request_of l.request) l.place l.found.items
