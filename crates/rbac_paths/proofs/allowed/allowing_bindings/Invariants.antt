use Rattle.rbac_paths.specs.Access.{access_of}
use Rattle.rbac_paths.specs.Allowed.{IsAllowingAt}
use Rattle.rbac_paths.proofs.ByBinding.{AreMarkedBelow}
use Rattle.rbac_paths.proofs.allowed.allowing_bindings.Given as goal

abbrev pub invariant-loop-no : goal.invariant-loop-no
invariant-loop-no l = AreMarkedBelow l.policy (IsAllowingAt l.policy (access_of l.access)) l.no l.marks.items
