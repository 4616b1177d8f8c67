-- The roles of an export as one list, and the objects that findings name.
use Rattle.std.specs.Prelude.{List, [], ◌++◌, Option, Some, None, codes, map, unwrap_or}
use Rattle.rbac_terms.specs.Text.{Text}
use Rattle.rbac_terms.specs.declared.granting.Binding.{Binding}
use Rattle.rbac_terms.specs.declared.granting.RoleRef.{RoleRef}
use Rattle.rbac_terms.specs.declared.granting.RoleRef.TheVariants.{Role as ToRole}
use Rattle.rbac_terms.specs.declared.granting.RoleRef.TheVariants.{ClusterRole as ToClusterRole}
use Rattle.rbac_model.specs.Policies.{Held, Source, InRole, InClusterRole, IsPlain}
use Rattle.rbac_lint.specs.Lines.{ObjectName}

-- all roles that are held: cluster roles by name, then roles by namespace and name
abbrev pub roles_in : Held → List Source
roles_in h = map (λ r. InClusterRole r) h.cluster_roles ++ map (λ r. InRole r) h.roles

-- a source whose written rules are used: a role, or a plain cluster role
abbrev pub IsPlainRole : Source → Type 0
IsPlainRole (InRole r) = Unit {0}
IsPlainRole (InClusterRole r) = IsPlain r

-- a Role by its namespace and name
abbrev pub role_object : Text → Text → ObjectName
role_object namespace name = record { kind = codes "Role"; namespace = Some namespace; name = name }

-- a ClusterRole by its name
abbrev pub cluster_role_object : Text → ObjectName
cluster_role_object name = record { kind = codes "ClusterRole"; namespace = None; name = name }

-- a role of either kind, as findings name it
abbrev pub source_object : Source → ObjectName
source_object (InRole r) = role_object r.namespace r.name
source_object (InClusterRole r) = cluster_role_object r.name

-- the kind of a binding, by its namespace
abbrev pub binding_kind : Option Text → Text
binding_kind None = codes "ClusterRoleBinding"
binding_kind (Some namespace) = codes "RoleBinding"

-- a binding, as findings name it
abbrev pub binding_object : Binding → ObjectName
binding_object b = record {
  kind = binding_kind b.namespace;
  namespace = b.namespace;
  name = b.name;
}

-- the role that a binding in that namespace names; a Role named with no namespace has the empty one
abbrev pub named_object : Option Text → RoleRef → ObjectName
named_object namespace (ToRole name) = role_object (unwrap_or namespace []) name
named_object namespace (ToClusterRole name) = cluster_role_object name
