use Rattle.std.proofs.Common.{take}
use Rattle.rbac_groups.specs.ByUser.{AreGroupsOf}
use Rattle.rbac_groups.proofs.by_user.GroupsByUser.build.Given as goal

abbrev pub invariant-loop-membership : goal.invariant-loop-membership
invariant-loop-membership l = AreGroupsOf (take l.membership-index l.memberships) l.groups
