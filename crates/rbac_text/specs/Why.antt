-- How the reason for a permission is printed (own).
use Rattle.std.specs.Prelude.{ℕ, ◌+◌, [], ◌∷◌, ◌++◌, codes, decimal, unwrap_or, Option}
use Rattle.rbac_terms.specs.Text.{Text}
use Rattle.rbac_terms.specs.declared.granting.Binding.{Binding}
use Rattle.rbac_terms.specs.declared.granting.RoleRef.{RoleRef}
use Rattle.rbac_terms.specs.declared.granting.RoleRef.TheVariants.{Role, ClusterRole}
use Rattle.rbac_model.specs.Policies.{Source, InRole, InClusterRole}
use Rattle.rbac_text.specs.Field.{field_text}
use Rattle.rbac_text.specs.Row.{tab, newline, field_and_tab, binding_text}

-- a role of a namespace, as one field
abbrev pub role_text : Text → Text → Text
role_text namespace name = field_text (codes "Role/" ++ namespace ++ codes "/" ++ name)

-- a role of the whole cluster, as one field
abbrev pub cluster_role_text : Text → Text
cluster_role_text name = field_text (codes "ClusterRole/" ++ name)

-- the role that a binding in that namespace, or in none, names; a Role that a ClusterRoleBinding
-- names has the empty namespace
abbrev pub named_text : Option Text → RoleRef → Text
named_text namespace (Role name) = role_text (unwrap_or namespace []) name
named_text namespace (ClusterRole name) = cluster_role_text name

-- the role where a rule is written
abbrev pub source_text : Source → Text
source_text (InRole r) = role_text r.namespace r.name
source_text (InClusterRole r) = cluster_role_text r.name

-- a place counted from 0 is printed as counted from 1
abbrev pub place_text : ℕ → Text
place_text place = decimal (place + 1)

-- the role that a binding names and the role where a rule is written, joined by a tab
abbrev pub roles_text : Binding → Source → Text
roles_text b source = named_text b.namespace b.role ++ tab ∷ source_text source

-- the places of a rule in its role and of a subject in its binding, joined by a tab
abbrev pub places_text : ℕ → ℕ → Text
places_text rule subject = place_text rule ++ tab ∷ place_text subject

-- the reason for a yes: the binding, both roles, and both places, joined by tabs
abbrev pub reason_text : Binding → Source → ℕ → ℕ → Text
reason_text b source rule subject =
    binding_text b ++ tab ∷ roles_text b source ++ tab ∷ places_text rule subject

-- the line with the reason for a yes
abbrev pub why_text : Binding → Source → ℕ → ℕ → Text
why_text b source rule subject = reason_text b source rule subject ++ newline ∷ []

-- the line of a holder: its key, and the reason for the permission
abbrev pub holder_why_text : Text → Binding → Source → ℕ → ℕ → Text
holder_why_text key b source rule subject = field_and_tab key ++ why_text b source rule subject
