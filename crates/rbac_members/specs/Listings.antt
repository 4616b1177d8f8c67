-- The users whom documents list in groups, one by one.
use Rattle.std.specs.Prelude.{◌≡◌, ◌∷◌, [], ◌↔◌, List, AllPairs, Contains, false, map}
use Rattle.std.specs.Ordering.{is_lt}
use Rattle.std.specs.List.Sorted.{IsSorted}
use Rattle.rbac_terms.specs.Text.{Text}
use Rattle.rbac_groups.specs.Memberships.{IsGivenBy}
use Rattle.rbac_groups.specs.declared.membership.Membership.{Membership}
use Rattle.rbac_model.specs.Lists.{by_name}

-- a group, and a user whom a document lists in it
pub record ListingView : Type 0 where
  pub group : Text
  pub user : Text

-- by what listings are in order: the group, and then the user
abbrev pub listing_name : ListingView → List Text
listing_name l = l.group ∷ l.user ∷ []

-- a listing of the document's group
abbrev pub listing_in : Membership → Text → ListingView
listing_in m user = record { group = m.group; user = user }

-- the listings of one document
abbrev pub listings_in : Membership → List ListingView
listings_in m = map (listing_in m) m.users

-- the listings of these documents, in order, maybe with repeats
pub record AreListings (ms : List Membership) (ls : List ListingView) : Type 0 where
  pub sorted : IsSorted (by_name listing_name) ls
  pub exact : (l : ListingView) → Contains ls l ↔ IsGivenBy ms l.user l.group

-- the listings of the group, in order
pub record AreOfGroup (ls : List ListingView) (group : Text) (found : List ListingView)
    : Type 0 where
  pub ordered : AllPairs (λ k l. is_lt (by_name listing_name l k) ≡ false) found
  pub exact : (l : ListingView) → Contains found l ↔ (Contains ls l × (l.group ≡ group))
