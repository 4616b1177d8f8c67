use Rattle.rbac_near.specs.Near.{request_of}
use Rattle.rbac_near.proofs.NamedOf.{AreAdded}
use Rattle.rbac_near.proofs.named.add_of_binding.Given as goal

abbrev pub invariant-loop-number : goal.invariant-loop-number
invariant-loop-number l = AreAdded l.policy (request_of l.request) l.place l.number l.initial.found.items l.found.items
