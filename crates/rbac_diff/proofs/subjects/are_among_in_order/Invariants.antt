use Rattle.std.proofs.Common.{◌-◌, take, length}
use Rattle.rbac_diff.specs.Unchanged.{AreAmong}
use Rattle.rbac_diff.proofs.subjects.are_among_in_order.Given as goal

abbrev pub invariant-loop-subject : goal.invariant-loop-subject
invariant-loop-subject l = AreAmong (take l.subject-index l.subjects) l.others

abbrev pub invariant-loop-at : goal.invariant-loop-at
invariant-loop-at l = AreAmong (take l.subject-index l.subjects) l.others

abbrev pub decreases-loop-at : goal.decreases-loop-at
decreases-loop-at l = length l.others - l.at
