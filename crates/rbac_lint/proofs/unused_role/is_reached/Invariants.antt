use Rattle.rbac_lint.proofs.Flags.{NoneReaches}
use Rattle.rbac_lint.proofs.unused_role.is_reached.Given as goal

abbrev pub invariant-loop-from : goal.invariant-loop-from
invariant-loop-from l = NoneReaches l.policy.held l.place l.gatherers l.from-index
