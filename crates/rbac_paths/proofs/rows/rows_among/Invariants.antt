use Rattle.std.proofs.Common.{map, take}
use Rattle.rbac_paths.specs.Rows.{AreOfStep, row_view}
use Rattle.rbac_paths.proofs.rows.rows_among.Given as goal

abbrev pub invariant-loop-row : goal.invariant-loop-row
invariant-loop-row l = AreOfStep l.step (map row_view (take l.row-index l.all)) l.rows.items
