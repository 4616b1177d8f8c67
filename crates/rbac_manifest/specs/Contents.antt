-- What documents give, grouped by its use.
use Rattle.std.specs.Prelude.{◌||◌, Bool, true, false, List, [], ◌++◌, Option, Some, None}
use Rattle.std.specs.List.{filter_map, flat_map, list_any}
use Rattle.rbac_terms.specs.Text.{Text}
use Rattle.rbac_model.specs.declared.objects.Object.{Object}
use Rattle.rbac_catalogue.specs.Catalogue.{CatalogueView}
use Rattle.rbac_catalogue.specs.declared.entry.Entry.{Entry}
use Rattle.rbac_lists.specs.declared.given_lists.Account.{Account}
use Rattle.rbac_lists.specs.declared.given_lists.GivenLists.{GivenLists}
use Rattle.rbac_groups.specs.declared.membership.Membership.{Membership}
use Rattle.rbac_manifest.specs.declared.content.Content.{Content}
use Rattle.rbac_manifest.specs.declared.content.Content.TheVariants as contents

-- an object, if this is one
abbrev pub as_object : Content → Option Object
as_object (contents.Object o) = Some o
as_object g = None

-- the objects among what is given, in order
abbrev pub objects_in : List Content → List Object
objects_in gs = filter_map as_object gs

-- the name of a namespace, if this is one
abbrev pub as_namespace : Content → Option Text
as_namespace (contents.Namespace name) = Some name
as_namespace g = None

-- the names of Namespace objects, in order
abbrev pub namespaces_in : List Content → List Text
namespaces_in gs = filter_map as_namespace gs

-- a ServiceAccount, if this is one
abbrev pub as_account : Content → Option Account
as_account (contents.Account a) = Some a
as_account g = None

-- the ServiceAccount objects, in order
abbrev pub accounts_in : List Content → List Account
accounts_in gs = filter_map as_account gs

-- whether this is an API resource list
abbrev pub is_api_list : Content → Bool
is_api_list (contents.ApiList entries) = true
is_api_list g = false

-- the entries of an API resource list
abbrev pub api_entries : Content → List Entry
api_entries (contents.ApiList entries) = entries
api_entries g = []

-- the catalogue: whether an API resource list is given, even one without entries, and the entries
-- of all of them in order
abbrev pub catalogue_in : List Content → CatalogueView
catalogue_in gs = record { is_given = list_any is_api_list gs; entries = flat_map api_entries gs }

-- the lists of a Universe document, if this is one
abbrev pub as_lists : Content → Option GivenLists
as_lists (contents.Lists lists) = Some lists
as_lists g = None

-- the lists of the Universe documents, in order
abbrev pub documents_in : List Content → List GivenLists
documents_in gs = filter_map as_lists gs

-- the group of a Group document, with the users that it lists, if this is one
abbrev pub as_membership : Content → Option Membership
as_membership (contents.Membership m) = Some m
as_membership g = None

-- the groups of all Group documents, in order, each with the users that it lists; of several
-- documents of one group none replaces another (own)
abbrev pub memberships_in : List Content → List Membership
memberships_in gs = filter_map as_membership gs

-- ---- while documents are read

-- what contracts see of what documents gave so far
pub record ContentsView : Type 0 where
  pub objects : List Object
  pub namespaces : List Text
  pub accounts : List Account
  pub catalogue : CatalogueView
  pub documents : List GivenLists
  pub memberships : List Membership

-- what documents give, sorted
unfoldable pub sorted_contents : List Content → ContentsView
sorted_contents gs = record {
  objects = objects_in gs;
  namespaces = namespaces_in gs;
  accounts = accounts_in gs;
  catalogue = catalogue_in gs;
  documents = documents_in gs;
  memberships = memberships_in gs;
}

-- the catalogue, with what later API resource lists add
abbrev pub catalogue_with : CatalogueView → List Content → CatalogueView
catalogue_with c gs = record {
  is_given = c.is_given || list_any is_api_list gs;
  entries = c.entries ++ flat_map api_entries gs;
}

-- these contents, with those that come after them
unfoldable pub with_contents : ContentsView → List Content → ContentsView
with_contents g gs = record {
  objects = g.objects ++ objects_in gs;
  namespaces = g.namespaces ++ namespaces_in gs;
  accounts = g.accounts ++ accounts_in gs;
  catalogue = catalogue_with g.catalogue gs;
  documents = g.documents ++ documents_in gs;
  memberships = g.memberships ++ memberships_in gs;
}
