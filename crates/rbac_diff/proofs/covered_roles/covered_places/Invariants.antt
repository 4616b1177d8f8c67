use Rattle.std.proofs.Common.{◌≡◌, length}
use Rattle.rbac_diff.specs.CoveredRoles.{AreCoveredAt}
use Rattle.rbac_diff.proofs.covered_roles.covered_places.Given as goal

abbrev pub invariant-loop-role : goal.invariant-loop-role
invariant-loop-role g l = (length l.places.items ≡ l.role-index) × AreCoveredAt g.T.Ruled.rules l.roles l.places.items l.others
