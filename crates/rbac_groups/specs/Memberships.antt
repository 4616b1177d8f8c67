-- Which groups documents give a user.
use Rattle.std.specs.Prelude.{◌≡◌, List, [], ◌++◌, Any, Contains, Option, Some, None}
use Rattle.std.specs.Prelude.{if◌then◌else◌}
use Rattle.std.specs.List.{filter_map, flat_map}
use Rattle.std.specs.Set.{is_member}
use Rattle.std.specs.Str.{bytes_eq}
use Rattle.rbac_terms.specs.Text.{Text}
use Rattle.rbac_terms.specs.Granting.{named}
use Rattle.rbac_terms.specs.Principals.{Who, AsUser, AsMember}
use Rattle.rbac_groups.specs.declared.membership.Membership.{Membership}

-- a document gives the user the group: the document is about that group and lists the user's name
-- (OpenShift, Group)
abbrev pub IsGivenBy : List Membership → Text → Text → Type 0
IsGivenBy ms user group = Any (λ m. (m.group ≡ group) × Contains m.users user) ms

-- the group of a document, if the document lists the user
abbrev pub group_listing : Text → Membership → Option Text
group_listing user m = if is_member bytes_eq m.users user then Some m.group else None

-- the groups whose documents list the user, in order of documents
abbrev pub groups_listing : List Membership → Text → List Text
groups_listing ms user = filter_map (group_listing user) ms

-- the principal, with the groups that documents give it after its own; documents list users, so a
-- member of a group gets none (own)
abbrev pub with_memberships : List Membership → Who → Who
with_memberships ms (AsUser name given) = AsUser name (given ++ groups_listing ms name)
with_memberships ms (AsMember group) = AsMember group

-- the user of this name, without given groups; an empty name, which no document lists, names nobody
-- (own)
abbrev pub user_named : Text → Option Who
user_named name = named (λ n. AsUser n []) name

-- the users whom documents list, in order, with repeats, without given groups (own)
abbrev pub users_listed : List Membership → List Who
users_listed ms = flat_map (λ m. filter_map user_named m.users) ms
