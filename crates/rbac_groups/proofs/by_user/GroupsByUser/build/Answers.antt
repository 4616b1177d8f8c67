use Rattle.rbac_groups.proofs.ByUser.{groups_more}
use Rattle.rbac_groups.proofs.by_user.GroupsByUser.build.Goals as goal

pub loop-membership-preserved : goal.loop-membership-preserved
loop-membership-preserved c =
    groups_more c.loop-membership.groups c.give_group.new.groups c.args.memberships.now c.loop-membership.membership-index c.membership-item.result c.loop-membership-test.true c.membership-item.is
    c.loop-membership.invariant c.in_ok-give_group.ensures
