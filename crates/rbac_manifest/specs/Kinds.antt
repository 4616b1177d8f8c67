-- The kind and version of a document; a list may imply them for its items.
use Rattle.std.specs.Prelude.{ℕ, ◌&&◌, ◌||◌, Bool, true, false, not, nat_eq, List, [], ◌∷◌, codes}
use Rattle.std.specs.Prelude.{Option, Some, None, option_map, unwrap_or, if◌then◌else◌}
use Rattle.std.specs.Str.{bytes_eq}
use Rattle.std.specs.List.{starts_with, list_any, find}
use Rattle.serde_json.specs.Data.{Data}
use Rattle.serde_json.specs.Find.{as_str}
use Rattle.json_fields.specs.Fields.{◌>>=◌, field}
use Rattle.rbac_manifest.specs.declared.kind.Kind.{Kind}
use Rattle.rbac_manifest.specs.declared.kind.Kind.TheVariants as kinds
use Rattle.rbac_manifest.specs.declared.kind.Implied.{Implied}
use Rattle.rbac_manifest.specs.declared.kind.Row.{Row}
use Rattle.rbac_manifest.specs.declared.kind.Implied.TheVariants as lists

-- the version of the RBAC group that the table names
abbrev pub rbac_v1 : List ℕ
rbac_v1 = codes "rbac.authorization.k8s.io/v1"

-- the older version of the group: the same fields, defaults and lists (Kubernetes API)
abbrev pub rbac_v1beta1 : List ℕ
rbac_v1beta1 = codes "rbac.authorization.k8s.io/v1beta1"

-- how a version of the RBAC group is read: each of these two as the one that the table names, and
-- no other
abbrev pub rbac_version : List ℕ → Option (List ℕ)
rbac_version v = if bytes_eq v rbac_v1 || bytes_eq v rbac_v1beta1 then Some rbac_v1 else None

-- a version as it is read; None if it is a version of the RBAC group that isn't read
unfoldable pub version_read : List ℕ → Option (List ℕ)
version_read v =
    if starts_with nat_eq v (codes "rbac.authorization.k8s.io/") then rbac_version v else Some v

-- the version of OpenShift's users and groups (OpenShift, Group)
abbrev pub users_v1 : List ℕ
users_v1 = codes "user.openshift.io/v1"

-- the kind that a list implies for its items
abbrev pub implied_kind : Implied → Option (List ℕ)
implied_kind lists.Nothing = None
implied_kind lists.Role = Some (codes "Role")
implied_kind lists.ClusterRole = Some (codes "ClusterRole")
implied_kind lists.RoleBinding = Some (codes "RoleBinding")
implied_kind lists.ClusterRoleBinding = Some (codes "ClusterRoleBinding")
implied_kind lists.Namespace = Some (codes "Namespace")
implied_kind lists.ServiceAccount = Some (codes "ServiceAccount")
implied_kind lists.Group = Some (codes "Group")

-- the version that a list implies for its items
abbrev pub implied_version : Implied → Option (List ℕ)
implied_version lists.Nothing = None
implied_version lists.Role = Some rbac_v1
implied_version lists.ClusterRole = Some rbac_v1
implied_version lists.RoleBinding = Some rbac_v1
implied_version lists.ClusterRoleBinding = Some rbac_v1
implied_version lists.Namespace = Some (codes "v1")
implied_version lists.ServiceAccount = Some (codes "v1")
implied_version lists.Group = Some users_v1

-- a field's own text, or the implied one if the field is missing
abbrev pub own_or : Option (List ℕ) → Option Data → Option (List ℕ)
own_or implied None = implied
own_or implied (Some d) = as_str d

-- the kind of a document; None if it is missing and none is implied, or if it isn't a text
unfoldable pub kind_at : Implied → Data → Option (List ℕ)
kind_at implied d = own_or (implied_kind implied) (field (codes "kind") d)

-- a pair of version and kind that is read, and what a document with that pair is
pub record Reading : Type 0 where
  pub version : List ℕ
  pub kind : List ℕ
  pub means : Kind

-- the table of the pairs that are read, with versions as they are read; a list of objects implies
-- the kind of its items (Kubernetes API; OpenShift for Group; own for Universe)
abbrev pub kinds_read : List Reading
kinds_read =
    record { version = rbac_v1; kind = codes "Role"; means = kinds.Role }
    ∷ record { version = rbac_v1; kind = codes "ClusterRole"; means = kinds.ClusterRole }
    ∷ record { version = rbac_v1; kind = codes "RoleBinding"; means = kinds.RoleBinding }
    ∷ record { version = rbac_v1; kind = codes "ClusterRoleBinding"; means = kinds.ClusterRoleBinding }
    ∷ record { version = rbac_v1; kind = codes "RoleList"; means = kinds.List lists.Role }
    ∷ record { version = rbac_v1; kind = codes "ClusterRoleList"; means = kinds.List lists.ClusterRole }
    ∷ record { version = rbac_v1; kind = codes "RoleBindingList"; means = kinds.List lists.RoleBinding }
    ∷ record { version = rbac_v1; kind = codes "ClusterRoleBindingList"; means = kinds.List lists.ClusterRoleBinding }
    ∷ record { version = codes "v1"; kind = codes "List"; means = kinds.List lists.Nothing }
    ∷ record { version = codes "v1"; kind = codes "Namespace"; means = kinds.Namespace }
    ∷ record { version = codes "v1"; kind = codes "ServiceAccount"; means = kinds.ServiceAccount }
    ∷ record { version = codes "v1"; kind = codes "NamespaceList"; means = kinds.List lists.Namespace }
    ∷ record { version = codes "v1"; kind = codes "ServiceAccountList"; means = kinds.List lists.ServiceAccount }
    ∷ record { version = codes "v1"; kind = codes "APIResourceList"; means = kinds.ApiList }
    ∷ record { version = codes "rbacaudit/v1"; kind = codes "Universe"; means = kinds.Universe }
    ∷ record { version = users_v1; kind = codes "Group"; means = kinds.Group }
    ∷ record { version = users_v1; kind = codes "GroupList"; means = kinds.List lists.Group }
    ∷ []

-- whether this is an API resource list, whose version may be missing (own)
abbrev pub needs_no_version : Kind → Bool
needs_no_version kinds.ApiList = true
needs_no_version _ = false

-- whether a row is of this kind and needs a version
abbrev pub asks_version : List ℕ → Reading → Bool
asks_version kind row = bytes_eq kind row.kind && not (needs_no_version row.means)

-- the kinds that need a version: those that are read, except API resource lists (own)
unfoldable pub needs_version : List ℕ → Bool
needs_version kind = list_any (asks_version kind) kinds_read

-- the implied version, or, if none is implied and the kind needs none, `v1`, the version of an API
-- resource list (own)
abbrev pub version_implied : Bool → Option (List ℕ) → Option (List ℕ)
version_implied needed None = if needed then None else Some (codes "v1")
version_implied needed (Some v) = Some v

-- a field's own version, or the implied one if the field is missing
abbrev pub version_or : Bool → Option (List ℕ) → Option Data → Option (List ℕ)
version_or needed implied None = version_implied needed implied
version_or needed implied (Some d) = as_str d >>= version_read

-- the version of a document of this kind as it is read, unless it is bad
unfoldable pub version_at : Implied → List ℕ → Data → Option (List ℕ)
version_at implied kind d =
    version_or (needs_version kind) (implied_version implied) (field (codes "apiVersion") d)

-- whether a row has this version and kind
abbrev pub is_row : List ℕ → List ℕ → Reading → Bool
is_row version kind row = bytes_eq version row.version && bytes_eq kind row.kind

-- the reading of a row of the program's own table
abbrev pub as_reading : Row → Reading
as_reading row = record { version = row.version.now; kind = row.kind.now; means = row.means }

-- what a document of this version and kind is by these rows; every pair that has no row is passed
-- over
abbrev pub meaning_in : List Reading → List ℕ → List ℕ → Kind
meaning_in rows version kind =
    unwrap_or (option_map (λ row. row.means) (find (is_row version kind) rows)) kinds.Other

-- what a document of this version and kind is; every pair that isn't in the table is passed over
unfoldable pub kind_named : List ℕ → List ℕ → Kind
kind_named version kind = meaning_in kinds_read version kind

-- the kind of a document, by the texts of its kind and version
unfoldable pub kind_of : Implied → Data → Kind
kind_of implied d =
    let kind = unwrap_or (kind_at implied d) [] in
    kind_named (unwrap_or (version_at implied kind d) []) kind
