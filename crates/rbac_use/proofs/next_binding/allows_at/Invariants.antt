use Rattle.rbac_use.specs.Requests.{request_of}
use Rattle.rbac_use.proofs.Grants.{AllowsNone}
use Rattle.rbac_use.proofs.next_binding.allows_at.Given as goal

abbrev pub invariant-loop-number : goal.invariant-loop-number
invariant-loop-number l = AllowsNone l.policy (request_of l.request) l.from l.number
