use Rattle.std.proofs.Common.{take}
use Rattle.std.specs.List.{AllZip}
use Rattle.rbac_model.specs.Places.{IsRowOf}
use Rattle.rbac_model.proofs.aggregation.rows_of.Given as goal

abbrev pub invariant-loop-at : goal.invariant-loop-at
invariant-loop-at l = AllZip (IsRowOf l.objects) (take l.at l.objects.cluster_roles) l.rows.items
