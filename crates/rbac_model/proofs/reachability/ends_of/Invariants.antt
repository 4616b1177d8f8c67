use Rattle.rbac_model.specs.Graphs.{AreEnds}
use Rattle.rbac_model.proofs.reachability.ends_of.Given as goal

abbrev pub invariant-loop-at : goal.invariant-loop-at
invariant-loop-at l = AreEnds l.graph l.ends
