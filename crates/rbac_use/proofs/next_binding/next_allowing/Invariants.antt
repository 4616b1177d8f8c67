use Rattle.std.proofs.Common.{◌-◌, length}
use Rattle.rbac_use.specs.Requests.{request_of}
use Rattle.rbac_use.proofs.NextAllowing.{AreDone}
use Rattle.rbac_use.proofs.next_binding.next_allowing.Given as goal

abbrev pub invariant-loop-start : goal.invariant-loop-start
invariant-loop-start l = AreDone l.policy (request_of l.request) l.place l.from

abbrev pub decreases-loop-start : goal.decreases-loop-start
decreases-loop-start l = length l.policy.grants - l.from
