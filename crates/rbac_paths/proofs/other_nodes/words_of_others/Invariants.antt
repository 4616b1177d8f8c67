use Rattle.std.proofs.Common.{map}
use Rattle.rbac_paths.specs.Joints.{AreOtherWords}
use Rattle.rbac_paths.specs.Nodes.{node_of}
use Rattle.rbac_paths.proofs.other_nodes.words_of_others.Given as goal

abbrev pub invariant-loop-node : goal.invariant-loop-node
invariant-loop-node l = AreOtherWords (map node_of l.nodes) l.node-index l.all.items
