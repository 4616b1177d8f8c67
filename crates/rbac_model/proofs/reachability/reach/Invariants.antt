use Rattle.std.proofs.Common.{length}
use Rattle.rbac_model.proofs.Searched.{IsReaching, missing}
use Rattle.rbac_model.proofs.reachability.reach.Given as goal

abbrev pub invariant-loop-at : goal.invariant-loop-at
invariant-loop-at l = IsReaching l.graph l.from l.seen l.done

abbrev pub decreases-loop-at : goal.decreases-loop-at
decreases-loop-at l = missing l.done (length l.graph)
