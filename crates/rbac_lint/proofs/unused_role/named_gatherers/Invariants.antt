use Rattle.rbac_lint.proofs.Flags.{AreGatherersBelow}
use Rattle.rbac_lint.proofs.unused_role.named_gatherers.Given as goal

abbrev pub invariant-loop-place : goal.invariant-loop-place
invariant-loop-place l = AreGatherersBelow l.objects l.place l.gatherers.items
