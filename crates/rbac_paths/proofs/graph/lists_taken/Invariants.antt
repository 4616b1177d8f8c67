use Rattle.std.proofs.Common.{◌≡◌, map, take}
use Rattle.rbac_paths.specs.SharedLists.{list_of}
use Rattle.rbac_paths.proofs.graph.lists_taken.Given as goal

abbrev pub invariant-loop-own : goal.invariant-loop-own
invariant-loop-own l = l.takes.items ≡ map (map (list_of l.lists)) (take l.own-index l.places)
