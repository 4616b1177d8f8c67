use Rattle.rbac_lint.specs.NamedRoles.{AreRoleFlags}
use Rattle.rbac_lint.proofs.Flags.{IsNamedBy}
use Rattle.rbac_lint.proofs.unused_role.named_roles.Given as goal

abbrev pub invariant-loop-binding : goal.invariant-loop-binding
invariant-loop-binding l = AreRoleFlags l.objects (IsNamedBy l.objects l.bindings l.binding-index) l.named.items
