use Rattle.rbac_diff.proofs.Flagging.{one_more}
use Rattle.rbac_diff.proofs.changed.without_alike.Goals as goal

pub loop-place-preserved : goal.loop-place-preserved
loop-place-preserved c = rw c.in_ok-push.ensures.items (one_more c.args.own.now c.args.other.now c.loop-place.left.items c.in_ok-stays_flagged.field-0 c.loop-place.place c.loop-place.invariant c.in_ok-stays_flagged.ensures)
