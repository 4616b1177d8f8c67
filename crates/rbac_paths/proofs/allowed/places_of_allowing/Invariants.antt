use Rattle.std.proofs.Common.{map}
use Rattle.rbac_paths.specs.Access.{AllowsAccess, access_of}
use Rattle.rbac_paths.specs.Nodes.{node_of}
use Rattle.rbac_paths.specs.Tracing.{IsAt}
use Rattle.rbac_paths.proofs.LinesTold.{AreBelow}
use Rattle.rbac_paths.proofs.allowed.places_of_allowing.Given as goal

abbrev pub invariant-loop-place : goal.invariant-loop-place
invariant-loop-place l = AreBelow (IsAt (AllowsAccess l.policy (access_of l.access)) (map node_of l.nodes)) l.place l.places.items
