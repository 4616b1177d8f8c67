use Rattle.std.proofs.Common.{◌≡◌, ◌++◌, take}
use Rattle.rbac_groups.specs.Memberships.{groups_listing}
use Rattle.rbac_groups.proofs.giving.add_groups.Given as goal

abbrev pub invariant-loop-membership : goal.invariant-loop-membership
invariant-loop-membership l = l.groups ≡ l.initial.groups ++ groups_listing (take l.membership-index l.memberships) l.user
