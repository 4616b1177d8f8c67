use Rattle.std.proofs.Common.{map}
use Rattle.rbac_paths.specs.Joints.{AreHad}
use Rattle.rbac_paths.specs.Nodes.{node_of}
use Rattle.rbac_paths.proofs.graph.words_of_nodes.Given as goal

abbrev pub invariant-loop-node : goal.invariant-loop-node
invariant-loop-node l = AreHad (map node_of l.nodes) l.node-index l.all.items
