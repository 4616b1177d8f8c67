-- Groups listed under users.
use Rattle.std.specs.Prelude.{◌≡◌, List, [], ◌∷◌, ◌++◌, Contains, unwrap_or}
use Rattle.std.specs.BTreeMap.{BTreeMap, get}
use Rattle.rbac_terms.specs.Text.{Text, text_cmp}
use Rattle.rbac_groups.specs.Memberships.{groups_listing}
use Rattle.rbac_groups.specs.declared.membership.Membership.{Membership}

-- lists of groups under users
abbrev pub GroupLists : Type 0
GroupLists = BTreeMap Text (List Text)

-- the groups listed under a user
abbrev pub groups_under : GroupLists → Text → List Text
groups_under lists user = unwrap_or (get text_cmp lists user) []

-- under each user are the groups that these documents give the user
abbrev pub AreGroupsOf : List Membership → GroupLists → Type 0
AreGroupsOf ms lists = (user : Text) → groups_under lists user ≡ groups_listing ms user

-- each of these users gets the group after its others, once, and no other user gets it
pub record GivesEach (old new : GroupLists) (users : List Text) (group : Text) : Type 0 where
  pub given : (user : Text) → Contains users user
      → groups_under new user ≡ groups_under old user ++ group ∷ []
  pub others : (user : Text) → ¬ Contains users user
      → groups_under new user ≡ groups_under old user
