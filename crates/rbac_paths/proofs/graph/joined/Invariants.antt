use Rattle.std.proofs.Common.{◌≡◌, ◌++◌, List, map}
use Rattle.rbac_terms.specs.Text.{Text}
use Rattle.rbac_paths.specs.Joints.{AreOwnWords, AreTaken}
use Rattle.rbac_paths.specs.Nodes.{node_of}
use Rattle.rbac_paths.proofs.graph.joined.Given as goal

abbrev pub invariant-loop-place : goal.invariant-loop-place
invariant-loop-place l = (own : List (List Text)) × (l.words.lists.items ≡ l.initial.words.lists.items ++ own) × AreOwnWords l.policy l.steps (map node_of l.nodes) l.place own
    × AreTaken l.policy l.steps (map node_of l.nodes) l.place l.others
