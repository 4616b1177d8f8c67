use Rattle.rbac_paths.specs.Nodes.{node_of}
use Rattle.rbac_paths.proofs.Untold.{ToldNoneTo}
use Rattle.rbac_paths.proofs.told.first_told.Given as goal

abbrev pub invariant-loop-rows : goal.invariant-loop-rows
invariant-loop-rows l = ToldNoneTo l.steps l.holdings (node_of l.to) l.rows-index
