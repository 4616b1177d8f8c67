use Rattle.rbac_use.proofs.Grants.{CanUseNone}
use Rattle.rbac_use.proofs.bindings.has_permissions.Given as goal

abbrev pub invariant-loop-number : goal.invariant-loop-number
invariant-loop-number l = CanUseNone l.policy l.from l.number
