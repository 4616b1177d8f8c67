use Rattle.rbac_reaches.specs.Reaches.{AreReachesBelow}
use Rattle.rbac_reaches.proofs.reach.reaches_of.Given as goal

abbrev pub invariant-loop-no : goal.invariant-loop-no
invariant-loop-no l = AreReachesBelow l.index l.universe l.no l.reaches.items
