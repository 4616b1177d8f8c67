-- The catalogue, and which of its resources are cluster-scoped.
use Rattle.std.specs.Prelude.{◌≡◌, ◌⊎◌, List, Any, Bool, IsTrue}
use Rattle.rbac_terms.specs.Text.{Text, slash, IsCutAtFirst}
use Rattle.rbac_catalogue.specs.declared.entry.Entry.{Entry}

-- the entries of all given API resource lists, in order, and whether a list was given, even one
-- without entries
pub record CatalogueView : Type 0 where
  pub is_given : Bool
  pub entries : List Entry

-- an entry is about the resource of that group and full text
abbrev pub IsAbout : Text → Text → Entry → Type 0
IsAbout group text e = (e.group ≡ group) × (e.name ≡ text)

-- some entry, whatever its version, is about the resource
abbrev pub IsListed : List Entry → Text → Text → Type 0
IsListed entries group text = Any (IsAbout group text) entries

-- a resource is namespaced if any of its versions is (own)
abbrev pub HasNamespacedVersion : List Entry → Text → Text → Type 0
HasNamespacedVersion entries group text =
    Any (λ e. IsAbout group text e × IsTrue e.namespaced) entries

-- a resource is cluster-scoped: it is listed, and not namespaced
abbrev pub IsClusterScoped : List Entry → Text → Text → Type 0
IsClusterScoped entries group text =
    IsListed entries group text × (¬ HasNamespacedVersion entries group text)

-- a resource is cluster-scoped, or it isn't listed, and the part before its first slash is
-- cluster-scoped (own)
unfoldable pub IsClusterOnly : List Entry → Text → Text → Type 0
IsClusterOnly entries group text =
    IsClusterScoped entries group text
    ⊎ ((¬ IsListed entries group text)
    × ((resource subresource : Text) × IsCutAtFirst text slash resource subresource
    × IsClusterScoped entries group resource))
