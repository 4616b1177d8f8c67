use Rattle.std.proofs.Common.{◌≡◌, take}
use Rattle.rbac_groups.specs.Memberships.{users_listed}
use Rattle.rbac_groups.proofs.users.users_listed.Given as goal

abbrev pub invariant-loop-membership : goal.invariant-loop-membership
invariant-loop-membership l = l.users.items ≡ users_listed (take l.membership-index l.memberships)
