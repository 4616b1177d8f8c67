-- The nodes, and how they are printed.
use Rattle.std.specs.Prelude.{◌≡◌, ◌≢◌, ◌↔◌, List, [], ◌++◌, Option, Some, None, AllPairs}
use Rattle.std.specs.Prelude.{Contains, codes}
use Rattle.std.specs.declared.cmp.Ordering.TheVariants.{Less}
use Rattle.rbac_terms.specs.Text.{Text, text_cmp}
use Rattle.rbac_terms.specs.Principals.{Who, who_key}
use Rattle.rbac_model.specs.Policies.{PolicyView}
use Rattle.rbac_subjects.specs.Bound.{HasRoleBindings}
use Rattle.rbac_text.specs.Choice.{choice_and_tab}
use Rattle.rbac_text.specs.Row.{field_and_tab}
use Rattle.rbac_paths.specs.Nodes.{NodeView, Somebody, ClusterRoleIn, OwnRole, EverythingIn}

-- a scope, where roles can be bound (own): the whole cluster, or a namespace that has a
-- RoleBinding, except the empty namespace, where no binding is live
abbrev pub IsScope : PolicyView → Option Text → Type 0
IsScope p None = Unit {0}
IsScope p (Some namespace) = HasRoleBindings p.held namespace × (namespace ≢ [])

-- a node of a policy (own): one of these users and groups, a role in a scope, or everything in a
-- scope
abbrev pub IsNode : PolicyView → List Who → NodeView → Type 0
IsNode p principals (Somebody who) = Contains principals who
IsNode p principals (ClusterRoleIn role scope) = Contains p.held.cluster_roles role × IsScope p scope
IsNode p principals (OwnRole role) = Contains p.held.roles role × IsScope p (Some role.namespace)
IsNode p principals (EverythingIn scope) = IsScope p scope

-- the node is a user or a group, a cluster role with one of the first names, a Role with one of the
-- second, or everything (own: other roles aren't listed)
abbrev pub IsNamedOf : List Text → List Text → NodeView → Type 0
IsNamedOf listed names (Somebody who) = Unit {0}
IsNamedOf listed names (ClusterRoleIn role scope) = Contains listed role.name
IsNamedOf listed names (OwnRole role) = Contains names role.name
IsNamedOf listed names (EverythingIn scope) = Unit {0}

-- who or what a node is: the key of a user or a group, the kind and name of a role, or `*`
abbrev pub who_or_what : NodeView → Text
who_or_what (Somebody who) = who_key who
who_or_what (ClusterRoleIn role scope) = codes "ClusterRole/" ++ role.name
who_or_what (OwnRole role) = codes "Role/" ++ role.namespace ++ codes "/" ++ role.name
who_or_what (EverythingIn scope) = codes "*"

-- where a node is, as printed, with a tab after it; a user or a group is nowhere, which is printed
-- as `-`
abbrev pub where_text : NodeView → Text
where_text (Somebody who) = field_and_tab []
where_text (ClusterRoleIn role scope) = choice_and_tab scope
where_text (OwnRole role) = choice_and_tab (Some role.namespace)
where_text (EverythingIn scope) = choice_and_tab scope

-- the printed text of a node: who or what, and where, each with a tab after it (own)
abbrev pub node_text : NodeView → Text
node_text y = field_and_tab (who_or_what y) ++ where_text y

-- exactly the nodes of the policy, but of the cluster roles only those with one of the first names,
-- and of the Roles those with one of the second; in order of who and where, byte by byte as printed
-- (own)
pub record AreNodes (p : PolicyView) (principals : List Who) (listed names : List Text)
    (ys : List NodeView) : Type 0 where
  pub ordered : AllPairs (λ y z. text_cmp (node_text y) (node_text z) ≡ Less) ys
  pub exact : (y : NodeView) → Contains ys y ↔ (IsNode p principals y × IsNamedOf listed names y)
