-- The users whom documents list in the groups among the holders of a permission.
use Rattle.std.specs.Prelude.{◌≡◌, ◌∷◌, [], ◌++◌, ◌↔◌, Bool, true, false, List, Any, Contains}
use Rattle.std.specs.declared.cmp.Ordering.TheVariants.{Less}
use Rattle.rbac_terms.specs.Text.{Text}
use Rattle.rbac_terms.specs.Principals.{AsUser, AsMember, who_key}
use Rattle.rbac_groups.specs.Memberships.{IsGivenBy}
use Rattle.rbac_groups.specs.declared.membership.Membership.{Membership}
use Rattle.rbac_index.specs.Holding.{IsAlike}
use Rattle.rbac_model.specs.Holders.{HolderView}
use Rattle.rbac_model.specs.Lists.{IsAscendingBy, by_name}

-- the user of this name, as a member of the group that is the holder x: it holds the permission by
-- the group's binding and subject (own)
abbrev pub member_by : HolderView → Text → HolderView
member_by x user = record x { key = who_key (AsUser user []) }

-- y is a user whom a document lists in the group that is the holder x (OpenShift, Group)
abbrev pub IsMemberOf : List Membership → HolderView → HolderView → Type 0
IsMemberOf ms x y = (group user : Text) × (x.key ≡ who_key (AsMember group))
    × IsGivenBy ms user group × (y ≡ member_by x user)

-- y is a user whom a document lists in a group among the holders
abbrev pub IsMemberAmong : List Membership → List HolderView → HolderView → Type 0
IsMemberAmong ms xs y = Any (λ x. IsMemberOf ms x y) xs

-- by what members are in order: their group's pair of places, and then their key (own)
abbrev pub member_name : HolderView → List Text
member_name y = (y.binding_place ∷ y.subject_place ∷ []) ∷ y.key ∷ []

-- z comes before y in this order
abbrev pub ComesBefore : HolderView → HolderView → Type 0
ComesBefore z y = by_name member_name z y ≡ Less

-- y is listed: a member of a group among the holders, which has another key than each holder or, if
-- every binding is listed, another key or another binding; and no such member comes before it with
-- the same of these (own)
abbrev pub IsListedMember : List Membership → Bool → List HolderView → HolderView → Type 0
IsListedMember ms every xs y = IsMemberAmong ms xs y
    × ((x : HolderView) → Contains xs x → ¬ IsAlike every x y)
    × ((z : HolderView) → IsMemberAmong ms xs z → IsAlike every z y → ¬ ComesBefore z y)

-- the members that are listed after the holders, in order (own)
pub record AreMembers (ms : List Membership) (every : Bool) (xs ys : List HolderView) : Type 0 where
  pub ordered : IsAscendingBy member_name ys
  pub exact : (y : HolderView) → Contains ys y ↔ IsListedMember ms every xs y

-- the holders, with the members of their groups after them if these are asked for (own)
abbrev pub AreHoldersAndMembers : List Membership → Bool → Bool → List HolderView
    → List HolderView → Type 0
AreHoldersAndMembers ms false every xs all = all ≡ xs
AreHoldersAndMembers ms true every xs all =
    (ys : List HolderView) × AreMembers ms every xs ys × (all ≡ xs ++ ys)
