-- What holds while the nodes of a policy are put in order.
use Rattle.std.specs.Prelude.{◌≡◌, ◌↔◌, ◌⊎◌, ◌∷◌, [], List, None, Option, Some, Any, Contains, IsSome}
use Rattle.std.specs.Borrow.{Bor}
use Rattle.std.specs.BTreeMap.{BTreeMap, get}
use Rattle.rbac_terms.specs.Text.{Text, text_cmp}
use Rattle.rbac_terms.specs.declared.granting.ClusterRole.{ClusterRole}
use Rattle.rbac_terms.specs.declared.granting.Role.{Role}
use Rattle.rbac_model.specs.Policies.{PolicyView}
use Rattle.rbac_paths.specs.NodeLists.{IsScope, node_text}
use Rattle.rbac_paths.specs.Nodes.{NodeView, ClusterRoleIn, OwnRole, EverythingIn, node_of}
use Rattle.rbac_paths.specs.declared.node.Node.{Node}

-- nodes, each under its printed text: who or what, and where
abbrev pub PrintedNodes : Type 0
PrintedNodes = BTreeMap Text Node

-- new is old after exactly the nodes with the property were added, each under its printed text
pub record AddsNodes (Is : NodeView → Type 0) (old new : PrintedNodes) : Type 0 where
  pub kept : (t : Text) → IsSome (get text_cmp old t) → IsSome (get text_cmp new t)
  pub has : (y : NodeView) → Is y → IsSome (get text_cmp new (node_text y))
  pub only : (t : Text) (x : Node) → get text_cmp new t ≡ Some x → (get text_cmp old t ≡ Some x)
      ⊎ ((t ≡ node_text (node_of x)) × Is (node_of x))

-- the namespace, if there is one that isn't empty
abbrev pub filled_namespace : Option Text → Option Text
filled_namespace None = None
filled_namespace (Some []) = None
filled_namespace (Some (byte ∷ rest)) = Some (byte ∷ rest)

-- the role is one of these cluster roles, and has one of these names
abbrev pub IsNamedRole : List ClusterRole → List Text → ClusterRole → Type 0
IsNamedRole roles names role = Contains roles role × Contains names role.name

-- the node is everything in the scope, or one of these cluster roles there
abbrev pub IsInScope : List (Bor ClusterRole) → Option Text → NodeView → Type 0
IsInScope roles scope y = (y ≡ EverythingIn scope)
    ⊎ Any (λ role. y ≡ ClusterRoleIn role.now scope) roles

-- the node is a cluster role in the scope, with one of these names
abbrev pub IsNamedInScope : PolicyView → List Text → Option Text → NodeView → Type 0
IsNamedInScope p names scope y = (role : ClusterRole)
    × IsNamedRole p.held.cluster_roles names role × (y ≡ ClusterRoleIn role scope)

-- the node is everything in some scope, or a cluster role there with one of these names
abbrev pub IsInSomeScope : PolicyView → List Text → NodeView → Type 0
IsInSomeScope p names y = (scope : Option Text) × IsScope p scope
    × ((y ≡ EverythingIn scope) ⊎ IsNamedInScope p names scope y)

-- the node is this role, which has one of these names and whose namespace is a scope
abbrev pub IsBoundRole : PolicyView → List Text → Role → NodeView → Type 0
IsBoundRole p names role y =
    (y ≡ OwnRole role) × IsScope p (Some role.namespace) × Contains names role.name

-- the node is a Role with one of these names, whose namespace is a scope
abbrev pub IsSomeBoundRole : PolicyView → List Text → NodeView → Type 0
IsSomeBoundRole p names y = Any (λ role. IsBoundRole p names role y) p.held.roles

-- the node is this role, and the map has everything in the role's namespace
abbrev pub IsRoleThere : PrintedNodes → Role → NodeView → Type 0
IsRoleThere m role y = (y ≡ OwnRole role)
    × IsSome (get text_cmp m (node_text (EverythingIn (Some role.namespace))))

-- the map has everything in a namespace exactly if this namespace is a scope
abbrev pub ScopesAreThere : PolicyView → PrintedNodes → Type 0
ScopesAreThere p m = (namespace : Text)
    → IsSome (get text_cmp m (node_text (EverythingIn (Some namespace)))) ↔ IsScope p (Some namespace)
