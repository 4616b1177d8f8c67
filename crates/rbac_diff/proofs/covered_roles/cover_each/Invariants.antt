use Rattle.std.proofs.Common.{◌≡◌, length}
use Rattle.rbac_diff.proofs.CoveringRules.{CoverUpTo}
use Rattle.rbac_diff.proofs.covered_roles.cover_each.Given as goal

abbrev pub invariant-loop-at : goal.invariant-loop-at
invariant-loop-at l = (length l.rules ≡ length l.others) × CoverUpTo l.rules l.others l.at
