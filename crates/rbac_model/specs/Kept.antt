-- Which of the given objects are kept: the last one of each kind, namespace and name.
use Rattle.std.specs.Prelude.{◌≡◌, ◌≢◌, ◌⊎◌, ◌↔◌, List, [], ◌∷◌, Option, Some, None, All, Contains}
use Rattle.std.specs.List.{filter_map}
use Rattle.rbac_terms.specs.Text.{Text}
use Rattle.rbac_terms.specs.declared.granting.Role.{Role}
use Rattle.rbac_terms.specs.declared.granting.ClusterRole.{ClusterRole}
use Rattle.rbac_terms.specs.declared.granting.Binding.{Binding}
use Rattle.rbac_model.specs.declared.objects.Object.{Object}
use Rattle.rbac_model.specs.declared.objects.Object.TheVariants.{Role as ARole}
use Rattle.rbac_model.specs.declared.objects.Object.TheVariants.{ClusterRole as AClusterRole}
use Rattle.rbac_model.specs.declared.objects.Object.TheVariants.{Binding as ABinding}
use Rattle.rbac_model.specs.Lists.{IsAscendingBy}
use Rattle.rbac_model.specs.Policies.{Held, role_name, cluster_role_name, binding_name}

-- x is in the list, and no later element has its name
abbrev pub IsLastNamed : {X : Type 0} → (X → List Text) → List X → X → Type 0
IsLastNamed name [] x = ⊥
IsLastNamed name (y ∷ ys) x = ((y ≡ x) × All (λ z. name z ≢ name x) ys) ⊎ IsLastNamed name ys x

-- for each name in xs, the last element that has it, in order of names
pub record AreLastNamed {X : Type 0} (name : X → List Text) (xs ys : List X) : Type 0 where
  pub ordered : IsAscendingBy name ys
  pub exact : (x : X) → Contains ys x ↔ IsLastNamed name xs x

-- the object, if it is a role
abbrev pub as_role : Object → Option Role
as_role (ARole r) = Some r
as_role (AClusterRole r) = None
as_role (ABinding b) = None

-- the object, if it is a cluster role
abbrev pub as_cluster_role : Object → Option ClusterRole
as_cluster_role (ARole r) = None
as_cluster_role (AClusterRole r) = Some r
as_cluster_role (ABinding b) = None

-- the object, if it is a binding
abbrev pub as_binding : Object → Option Binding
as_binding (ARole r) = None
as_binding (AClusterRole r) = None
as_binding (ABinding b) = Some b

-- the objects that are kept of the given ones: a later object replaces an earlier one with the same
-- kind, namespace and name (own)
pub record AreKept (given : List Object) (h : Held) : Type 0 where
  pub roles : AreLastNamed role_name (filter_map as_role given) h.roles
  pub cluster_roles : AreLastNamed cluster_role_name
      (filter_map as_cluster_role given) h.cluster_roles
  pub bindings : AreLastNamed binding_name (filter_map as_binding given) h.bindings
