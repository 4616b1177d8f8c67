-- The members of groups among holders, with repeats.
use Rattle.std.specs.Prelude.{◌≡◌, ◌↔◌, List, AllPairs, Any, Contains}
use Rattle.rbac_terms.specs.Principals.{AsMember, who_key}
use Rattle.rbac_groups.specs.declared.membership.Membership.{Membership}
use Rattle.rbac_model.specs.Holders.{HolderView}
use Rattle.rbac_members.specs.Listings.{ListingView}
use Rattle.rbac_members.specs.Members.{ComesBefore, IsMemberAmong, member_by}

-- y doesn't come before x
abbrev pub IsNotBefore : HolderView → HolderView → Type 0
IsNotBefore x y = ¬ ComesBefore y x

-- y is the user of a listing, as a member of the listing's group, which is the holder x
abbrev pub IsListed : HolderView → HolderView → ListingView → Type 0
IsListed x y l = (x.key ≡ who_key (AsMember l.group)) × (y ≡ member_by x l.user)

-- the users of the listings of the group that is the holder x, in order
pub record AreListedIn (ls : List ListingView) (x : HolderView) (ys : List HolderView)
    : Type 0 where
  pub ordered : AllPairs IsNotBefore ys
  pub exact : (y : HolderView) → Contains ys y ↔ Any (IsListed x y) ls

-- the members of the groups among the holders, in order
pub record AreCandidates (ms : List Membership) (xs ys : List HolderView) : Type 0 where
  pub ordered : AllPairs IsNotBefore ys
  pub exact : (y : HolderView) → Contains ys y ↔ IsMemberAmong ms xs y
