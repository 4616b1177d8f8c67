use Rattle.std.proofs.Common.{take}
use Rattle.rbac_diff.specs.Unchanged.{AreAmong}
use Rattle.rbac_diff.proofs.subjects.are_at.Given as goal

abbrev pub invariant-loop-subject : goal.invariant-loop-subject
invariant-loop-subject l = AreAmong (take l.subject-index l.subjects) l.others
