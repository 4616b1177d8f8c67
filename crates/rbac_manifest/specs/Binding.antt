-- The role that a binding names, and its subjects (Using RBAC Authorization, RoleBinding and
-- ClusterRoleBinding, Referring to subjects).
use Rattle.std.specs.Prelude.{ℕ, ◌||◌, ◌&&◌, Bool, not, List, [], ◌∷◌, codes, Option, Some, None}
use Rattle.std.specs.Prelude.{option_and_then, if◌then◌else◌}
use Rattle.std.specs.Str.{bytes_eq}
use Rattle.serde_json.specs.Data.{Data}
use Rattle.json_fields.specs.Fields.{◌>>=◌, field, list_field, text_at, name_at, is_object}
use Rattle.json_fields.specs.Fields.{is_empty, non_empty, text, is_no_text, any_of}
use Rattle.rbac_manifest.specs.Lists.{items_given}
use Rattle.rbac_terms.specs.declared.granting.RoleRef.{RoleRef}
use Rattle.rbac_terms.specs.declared.granting.RoleRef.TheVariants.{Role, ClusterRole}
use Rattle.rbac_terms.specs.declared.granting.Subject.{Subject}
use Rattle.rbac_terms.specs.declared.granting.Subject.TheVariants.{User, Group, Account}

-- whether this is the RBAC group, which is also the default
unfoldable pub is_rbac_group : List ℕ → Bool
is_rbac_group group = is_empty group || bytes_eq group (codes "rbac.authorization.k8s.io")

-- the role of this kind, group and name; a Role only if the binding is in a namespace
unfoldable pub role_named : Bool → List ℕ → List ℕ → List ℕ → Option RoleRef
role_named in_namespace kind group name =
    if not (is_rbac_group group) then None
    else if bytes_eq kind (codes "ClusterRole") then Some (ClusterRole name)
    else if in_namespace && bytes_eq kind (codes "Role") then Some (Role name)
    else None

-- a reference has a kind, a group and a name
unfoldable pub role_ref_from : Bool → Data → Option RoleRef
role_ref_from in_namespace d =
    text_at (codes "kind") d >>= λ kind.
    text_at (codes "apiGroup") d >>= λ group.
    name_at d >>= λ name.
    role_named in_namespace kind group name

-- the reference of a binding, unless it is bad
unfoldable pub role_ref_at : Bool → Data → Option RoleRef
role_ref_at in_namespace d =
    option_and_then (λ r. if is_object r then role_ref_from in_namespace r else None)
    (field (codes "roleRef") d)

-- the kinds that a binding may name: a ClusterRole, and if it is in a namespace a Role
abbrev pub is_role_kind : Bool → List ℕ → Bool
is_role_kind in_namespace kind = bytes_eq kind (codes "ClusterRole")
    || (in_namespace && bytes_eq kind (codes "Role"))

-- a reference is bad if it isn't an object, if its kind or group isn't a text, if its name isn't a
-- text or is empty, if its group isn't the RBAC group, or if the binding may not name its kind
unfoldable pub is_bad_role_ref : Bool → Data → Bool
is_bad_role_ref in_namespace r = any_of (
    not (is_object r)
    ∷ is_no_text (codes "kind") r
    ∷ is_no_text (codes "apiGroup") r
    ∷ is_empty (text (codes "name") r)
    ∷ not (is_rbac_group (text (codes "apiGroup") r))
    ∷ not (is_role_kind in_namespace (text (codes "kind") r))
    ∷ [])

-- ---- subjects

-- the subject of this kind, group, name and namespace; an empty namespace counts as missing (own)
unfoldable pub subject_named : List ℕ → List ℕ → List ℕ → List ℕ → Option Subject
subject_named kind group name namespace =
    if bytes_eq kind (codes "User") && is_rbac_group group then Some (User name)
    else if bytes_eq kind (codes "Group") && is_rbac_group group then Some (Group name)
    else if bytes_eq kind (codes "ServiceAccount") && is_empty group
    then Some (Account (non_empty namespace) name)
    else None

-- a subject has a kind, a group, a name and perhaps a namespace
unfoldable pub subject_from : Data → Option Subject
subject_from d =
    text_at (codes "kind") d >>= λ kind.
    text_at (codes "apiGroup") d >>= λ group.
    name_at d >>= λ name.
    text_at (codes "namespace") d >>= λ namespace.
    subject_named kind group name namespace

-- the subject that an item gives, unless it is bad
unfoldable pub subject_at : Data → Option Subject
subject_at d = if is_object d then subject_from d else None

-- User and Group are in the RBAC group, and ServiceAccount is in the core group, which is the empty
-- text
abbrev pub is_subject_kind : List ℕ → List ℕ → Bool
is_subject_kind kind group =
    ((bytes_eq kind (codes "User") || bytes_eq kind (codes "Group")) && is_rbac_group group)
    || (bytes_eq kind (codes "ServiceAccount") && is_empty group)

-- a subject is bad if it isn't an object, if its kind, group or namespace isn't a text, if its name
-- isn't a text or is empty, or if it is of no such kind and group
unfoldable pub is_bad_subject : Data → Bool
is_bad_subject s = any_of (
    not (is_object s)
    ∷ is_no_text (codes "kind") s
    ∷ is_no_text (codes "apiGroup") s
    ∷ is_empty (text (codes "name") s)
    ∷ is_no_text (codes "namespace") s
    ∷ not (is_subject_kind (text (codes "kind") s) (text (codes "apiGroup") s))
    ∷ [])

-- the subjects of a binding, in written order
unfoldable pub subjects_in : Data → List Subject
subjects_in d = items_given subject_at (list_field (codes "subjects") d)
