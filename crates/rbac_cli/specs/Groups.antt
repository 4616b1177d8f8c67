-- The users and groups that are named, and the groups that documents give them.
use Rattle.std.specs.Prelude.{[], List, ◌++◌, map}
use Rattle.rbac_terms.specs.Principals.{Who}
use Rattle.rbac_groups.specs.Memberships.{users_listed, with_memberships}
use Rattle.rbac_manifest.specs.Load.{LoadedView}

-- the users and groups that bindings, ServiceAccount objects and Group documents name, without
-- given groups (own)
abbrev pub named_alone : LoadedView → List Who
named_alone l = l.principals ++ users_listed l.memberships

-- the same, each with the groups that documents give it (own)
abbrev pub named_in : LoadedView → List Who
named_in l = map (with_memberships l.memberships) (named_alone l)

-- the same without any Group document: the users whom documents listed are still named, and each
-- has the groups that documents gave it
abbrev pub without_memberships : LoadedView → LoadedView
without_memberships l = record l { principals = named_in l; memberships = [] }
