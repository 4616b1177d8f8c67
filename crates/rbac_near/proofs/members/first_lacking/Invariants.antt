use Rattle.rbac_near.specs.Near.{request_of}
use Rattle.rbac_near.proofs.LackingMember.{AllowsNone}
use Rattle.rbac_near.proofs.members.first_lacking.Given as goal

abbrev pub invariant-loop-number : goal.invariant-loop-number
invariant-loop-number l = AllowsNone l.policy (request_of l.request) l.from l.number
