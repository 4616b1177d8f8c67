use Rattle.rbac_model.proofs.NamesIn.{IsNamedUpTo}
use Rattle.rbac_model.proofs.aggregation.names_in.Given as goal

abbrev pub invariant-loop-at : goal.invariant-loop-at
invariant-loop-at l = IsNamedUpTo l.objects l.places l.names l.at
