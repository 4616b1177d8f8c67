use Rattle.rbac_paths.proofs.Giving.{AllowsNone}
use Rattle.rbac_paths.proofs.finding.first_giving.Given as goal

abbrev pub invariant-loop-no : goal.invariant-loop-no
invariant-loop-no l = AllowsNone l.policy l.rows l.from l.no
