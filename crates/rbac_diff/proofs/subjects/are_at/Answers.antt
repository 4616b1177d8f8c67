use Rattle.std.proofs.Common.{rules}
use Rattle.rbac_diff.proofs.CoveredGrants.{held_more}
use Rattle.rbac_diff.proofs.subjects.are_at.Goals as goal

pub loop-subject-preserved : goal.loop-subject-preserved
loop-subject-preserved c = held_more c.args.subjects.now c.args.others.now c.loop-subject.subject-index c.subject-item.result c.loop-subject-test.true c.subject-item.is c.loop-subject.invariant (c.in_ok-is_at.ensures (search rules))
