use Rattle.std.proofs.Common.{◌≡◌, take}
use Rattle.std.specs.List.{flat_map}
use Rattle.rbac_members.specs.Listings.{listings_in}
use Rattle.rbac_members.proofs.listings.listings_of.Given as goal

abbrev pub invariant-loop-membership : goal.invariant-loop-membership
invariant-loop-membership l = l.listings.items ≡ flat_map listings_in (take l.membership-index l.memberships)
