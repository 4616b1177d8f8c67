use Rattle.std.proofs.Common.{◌≡◌, ◌++◌, map, take}
use Rattle.rbac_index.specs.HolderViews.{holder_shown}
use Rattle.rbac_members.specs.Listings.{ListingView}
use Rattle.rbac_members.specs.Members.{member_by}
use Rattle.rbac_members.proofs.candidates.add_listed.Given as goal

abbrev pub invariant-loop-listing : goal.invariant-loop-listing
invariant-loop-listing l = l.members.items ≡ l.initial.members.items ++ map (λ (k : ListingView). member_by (holder_shown l.group) k.user) (take l.listing-index l.listings)
