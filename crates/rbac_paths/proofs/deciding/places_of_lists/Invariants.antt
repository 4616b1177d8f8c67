use Rattle.std.proofs.Common.{map}
use Rattle.rbac_paths.specs.Deciding.{ArePlaces}
use Rattle.rbac_paths.specs.Nodes.{node_of}
use Rattle.rbac_paths.proofs.deciding.places_of_lists.Given as goal

abbrev pub invariant-loop-place : goal.invariant-loop-place
invariant-loop-place l = ArePlaces l.index l.grants (map node_of l.nodes) l.place l.all.items
