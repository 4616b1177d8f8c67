use Rattle.rbac_diff.proofs.CoveredGrants.{AreCoveredUpTo}
use Rattle.rbac_diff.proofs.unchanged.are_rules_covered.Given as goal

abbrev pub invariant-loop-no : goal.invariant-loop-no
invariant-loop-no l = AreCoveredUpTo l.own l.from l.other l.other_from l.no
