-- Which roles bindings name, for finding unused roles.
use Rattle.std.specs.Prelude.{◌≡◌, ℕ, ◌⊎◌, ◌↔◌, List, Some, Bool, true, false, Contains, length}
use Rattle.std.specs.Prelude.{get_or, slice_get}
use Rattle.rbac_terms.specs.declared.granting.Binding.{Binding}
use Rattle.rbac_terms.specs.declared.granting.ClusterRole.{ClusterRole}
use Rattle.rbac_model.specs.Policies.{Held, Source, InClusterRole, IsPlain, IsRefTo}
use Rattle.rbac_model.specs.Places.{IsReachedAt}
use Rattle.rbac_lint.specs.declared.finding.Finding.{Finding}
use Rattle.rbac_lint.specs.Lines.{Line, AddsLines}
use Rattle.rbac_lint.specs.Roles.{roles_in}
use Rattle.rbac_lint.specs.Findings.{IsNamedByBinding}

-- there is a flag for each role, which is set exactly if the role has the property
pub record AreRoleFlags (h : Held) (P : Source → Type 0) (flags : List Bool) : Type 0 where
  pub len : length flags ≡ length (roles_in h)
  pub exact : (k : ℕ) (s : Source) → slice_get (roles_in h) k ≡ Some s
      → (get_or flags k false ≡ true) ↔ P s

-- a flag for each role, which is set exactly if some binding names it
abbrev pub AreNamed : Held → List Bool → Type 0
AreNamed h flags = AreRoleFlags h (IsNamedByBinding h) flags

-- places of cluster roles that bindings name, including those of all the aggregated ones
pub record AreGatherers (h : Held) (places : List ℕ) : Type 0 where
  pub sound : (k : ℕ) → Contains places k
      → (c : ClusterRole) × (slice_get h.cluster_roles k ≡ Some c)
      × IsNamedByBinding h (InClusterRole c)
  pub complete : (k : ℕ) (c : ClusterRole) → slice_get h.cluster_roles k ≡ Some c
      → IsNamedByBinding h (InClusterRole c) → (¬ IsPlain c) → Contains places k

-- new has old's flags, and that of the role that the binding names, if the role exists
pub record AreFlagsWith (h : Held) (b : Binding) (old new : List Bool) : Type 0 where
  pub len : length new ≡ length old
  pub exact : (k : ℕ) (s : Source) → slice_get (roles_in h) k ≡ Some s
      → (get_or new k false ≡ true) ↔ ((get_or old k false ≡ true) ⊎ IsRefTo h b.namespace b.role s)

-- a cluster role that a binding names reaches the one at a place
unfoldable pub IsReachedByNamedAt : Held → ℕ → Type 0
IsReachedByNamedAt h k =
    (c : ClusterRole) × IsNamedByBinding h (InClusterRole c) × IsReachedAt h c k

-- the lines of the role at a place are added
abbrev pub IsAddedAt : (Source → Line → Type 0) → Held → ℕ → List Finding → List Finding → Type 0
IsAddedAt P h place old new = (s : Source) → slice_get (roles_in h) place ≡ Some s
    → AddsLines (P s) old new
