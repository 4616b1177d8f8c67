use Rattle.std.proofs.Common.{take}
use Rattle.rbac_use.specs.Needs.{AreNeeded}
use Rattle.rbac_use.proofs.needs.needed_of.Given as goal

abbrev pub invariant-loop-request : goal.invariant-loop-request
invariant-loop-request l = AreNeeded l.policy l.user (take l.request-index l.requests) l.all.items
