use Rattle.std.proofs.Common.{take}
use Rattle.rbac_paths.specs.Asked.{AreAskedFor}
use Rattle.rbac_paths.specs.Nodes.{node_of}
use Rattle.rbac_paths.proofs.told.asked_rows.Given as goal

abbrev pub invariant-loop-row : goal.invariant-loop-row
invariant-loop-row l = AreAskedFor (take l.row-index l.rows) (node_of l.node) l.asked.items
