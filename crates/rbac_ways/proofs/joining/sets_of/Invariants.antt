use Rattle.std.proofs.Common.{[], get_or, length}
use Rattle.rbac_ways.specs.Joining.{IsNumberOf}
use Rattle.rbac_ways.proofs.Turning.{AreListedBelow}
use Rattle.rbac_ways.proofs.joining.sets_of.Given as goal

abbrev pub invariant-loop-node : goal.invariant-loop-node
invariant-loop-node l = AreListedBelow (λ j number. IsNumberOf l.words (get_or l.had_by j []) number) (length l.words) l.node l.sets.items
