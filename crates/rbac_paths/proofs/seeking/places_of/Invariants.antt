use Rattle.std.proofs.Common.{map}
use Rattle.rbac_paths.specs.Nodes.{node_of}
use Rattle.rbac_paths.specs.Tracing.{IsAt}
use Rattle.rbac_paths.specs.Seeking.{IsSought}
use Rattle.rbac_paths.proofs.LinesTold.{AreBelow}
use Rattle.rbac_paths.proofs.seeking.places_of.Given as goal

abbrev pub invariant-loop-place : goal.invariant-loop-place
invariant-loop-place l = AreBelow (IsAt (IsSought l.sought) (map node_of l.nodes)) l.place l.places.items
