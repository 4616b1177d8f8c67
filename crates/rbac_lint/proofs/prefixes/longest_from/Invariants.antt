use Rattle.std.proofs.Common.{◌<◌, length}
use Rattle.std.specs.Prelude.{IfSome}
use Rattle.rbac_lint.specs.Prefixes.{LinksTo}
use Rattle.rbac_lint.proofs.Linked.{steps_left}
use Rattle.rbac_lint.proofs.prefixes.longest_from.Given as goal

abbrev pub invariant-loop-next : goal.invariant-loop-next
invariant-loop-next l = LinksTo l.prefixes (length l.prefixes) l.text l.next × IfSome l.next (λ i. i < length l.prefixes)

abbrev pub decreases-loop-next : goal.decreases-loop-next
decreases-loop-next l = steps_left l.next
