use Rattle.std.proofs.Common.{◌≡◌, ◌++◌, map, take}
use Rattle.rbac_members.specs.Listings.{listing_in}
use Rattle.rbac_members.proofs.listings.add_listings.Given as goal

abbrev pub invariant-loop-user : goal.invariant-loop-user
invariant-loop-user l = l.listings.items ≡ l.initial.listings.items ++ map (listing_in l.membership) (take l.user-index l.users)
