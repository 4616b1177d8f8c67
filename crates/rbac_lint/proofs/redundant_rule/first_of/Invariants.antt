use Rattle.std.proofs.Common.{length}
use Rattle.rbac_lint.proofs.Looked.{Narrows}
use Rattle.rbac_lint.proofs.redundant_rule.first_of.Given as goal

abbrev pub invariant-loop-listed : goal.invariant-loop-listed
invariant-loop-listed l = Narrows l.rules l.place l.candidates.lists.items l.first

abbrev pub decreases-loop-listed : goal.decreases-loop-listed
decreases-loop-listed l = length l.candidates.lists.items
