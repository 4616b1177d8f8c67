use Rattle.rbac_lint.proofs.Linked.{steps_left}
use Rattle.rbac_lint.proofs.Looked.{HasPrefixes}
use Rattle.rbac_lint.proofs.candidates.add_prefixes.Given as goal

abbrev pub invariant-loop-next : goal.invariant-loop-next
invariant-loop-next l = HasPrefixes l.prefixes l.text l.initial.candidates l.candidates l.next

abbrev pub decreases-loop-next : goal.decreases-loop-next
decreases-loop-next l = steps_left l.next
