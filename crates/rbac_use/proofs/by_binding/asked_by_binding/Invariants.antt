use Rattle.std.proofs.Common.{take}
use Rattle.rbac_use.specs.ByBinding.{AreAskedByBinding}
use Rattle.rbac_use.proofs.by_binding.asked_by_binding.Given as goal

abbrev pub invariant-loop-request : goal.invariant-loop-request
invariant-loop-request l = AreAskedByBinding l.policy (take l.request-index l.requests) l.lists.items
