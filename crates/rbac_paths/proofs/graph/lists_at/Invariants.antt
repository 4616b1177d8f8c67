use Rattle.std.proofs.Common.{◌≡◌, map, take}
use Rattle.rbac_paths.specs.SharedLists.{list_of}
use Rattle.rbac_paths.proofs.graph.lists_at.Given as goal

abbrev pub invariant-loop-place : goal.invariant-loop-place
invariant-loop-place l = l.found.items ≡ map (list_of l.lists) (take l.place-index l.places)
