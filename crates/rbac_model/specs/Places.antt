use Rattle.std.specs.Prelude.{◌≡◌, ◌↔◌, Contains, ℕ, ◌<◌, ◌⊎◌, List, [], ◌∷◌, ◌++◌, Option, Some}
use Rattle.std.specs.Prelude.{None, All, IsSome, map, slice_get, length, zero, suc}
use Rattle.std.specs.List.{filter_map, flat_map, AllZip}
use Rattle.std.specs.Option.{option_map}
use Rattle.rbac_model.specs.Graphs.{Graph, HasEdge, HasPlace}
use Rattle.rbac_model.specs.Lists.{IsAscendingBy}
use Rattle.rbac_terms.specs.Text.{Text}
use Rattle.rbac_model.specs.Policies.{Held, Source, InRole, InClusterRole, SourcedRule, GrantView}
use Rattle.rbac_model.specs.Policies.{IsRefTo, IsPlain, Step, Reaches, AreGathered}
use Rattle.rbac_model.specs.Policies.{grant_at, grants_at}
use Rattle.rbac_terms.specs.declared.granting.Binding.{Binding}
use Rattle.rbac_terms.specs.declared.granting.ClusterRole.{ClusterRole}
use Rattle.rbac_terms.specs.declared.granting.RoleRef.{RoleRef}
use Rattle.rbac_terms.specs.declared.matching.Rule.{Rule}
use Rattle.rbac_model.specs.declared.places.GrantPlace.{GrantPlace}
use Rattle.rbac_model.specs.declared.places.RolePlace.{RolePlace}
use Rattle.rbac_model.specs.declared.places.RolePlace.TheVariants.{RoleAt, ClusterRoleAt}

-- the role at a place
abbrev pub source_at : Held → RolePlace → Option Source
source_at h (RoleAt at) = option_map (λ r. InRole r) (slice_get h.roles at)
source_at h (ClusterRoleAt at) = option_map (λ r. InClusterRole r) (slice_get h.cluster_roles at)

-- the rules that are written in a role
abbrev pub rules_of : Source → List Rule
rules_of (InRole r) = r.rules
rules_of (InClusterRole r) = r.rules

-- the role reference of a binding in that namespace, or in none, refers to the role at this place
abbrev pub IsRefAt : Held → Option Text → RoleRef → RolePlace → Type 0
IsRefAt h namespace role place = (source : Source) × (source_at h place ≡ Some source)
    × IsRefTo h namespace role source

-- the places of the first n rules of a role, each with the place of a binding
abbrev pub places_of : ℕ → RolePlace → ℕ → List GrantPlace
places_of binding role zero = []
places_of binding role (suc n) =
    places_of binding role n ++ record { binding = binding; role = role; rule = n } ∷ []

-- the grants of a binding, one for each of these rules
abbrev pub granted_by : Binding → List SourcedRule → List GrantView
granted_by b rules = map (λ rule. record { binding = b; rule = rule }) rules

-- new is old, followed by the places of the binding's grants by these rules
pub record IsAdded (h : Held) (b : Binding) (old new : List GrantPlace)
    (rules : List SourcedRule) : Type 0 where
  pub grants : grants_at h new ≡ grants_at h old ++ granted_by b rules
  pub held : All (λ g. IsSome (grant_at h g)) new

-- the cluster roles at these places
abbrev pub roles_at : Held → List ℕ → List ClusterRole
roles_at h ps = filter_map (slice_get h.cluster_roles) ps

-- the places of the roles whose written rules a cluster role has: its own place if it is plain,
-- otherwise the places of the roles that it gathers from
abbrev pub AreSourcesOf : Held → ClusterRole → List ℕ → Type 0
AreSourcesOf h r ps =
    All (λ p. p < length h.cluster_roles) ps
    × ((IsPlain r × (roles_at h ps ≡ r ∷ [])) ⊎ ((¬ IsPlain r) × AreGathered h r (roles_at h ps)))

-- the places of the roles whose written rules the cluster role at this place has
abbrev pub AreSourcesAt : Held → ℕ → List ℕ → Type 0
AreSourcesAt h at ps = (r : ClusterRole) → slice_get h.cluster_roles at ≡ Some r
    → AreSourcesOf h r ps

-- the role at a place is plain
abbrev pub IsPlainAt : List ClusterRole → ℕ → Type 0
IsPlainAt roles k = (s : ClusterRole) × (slice_get roles k ≡ Some s) × IsPlain s

-- one step leads from r to the role at a place
abbrev pub IsStepTo : Held → ClusterRole → ℕ → Type 0
IsStepTo h r k = (s : ClusterRole) × (slice_get h.cluster_roles k ≡ Some s) × Step h r s

-- the set of the cluster roles that one step leads to from r
abbrev pub IsRowOf : Held → ClusterRole → List ℕ → Type 0
IsRowOf h r row = (k : ℕ) → HasPlace row k ↔ IsStepTo h r k

-- for each cluster role, the set of the cluster roles that one step leads to
abbrev pub AreSteps : Held → Graph → Type 0
AreSteps h rows = AllZip (IsRowOf h) h.cluster_roles rows

-- r reaches the role at a place
abbrev pub IsReachedAt : Held → ClusterRole → ℕ → Type 0
IsReachedAt h r k = (s : ClusterRole) × (slice_get h.cluster_roles k ≡ Some s) × Reaches h r s

-- for each cluster role, the set of the cluster roles that it reaches
pub record AreReachedByEach (h : Held) (rows : Graph) : Type 0 where
  pub len : length rows ≡ length h.cluster_roles
  pub exact : (at : ℕ) (r : ClusterRole) → slice_get h.cluster_roles at ≡ Some r
      → (k : ℕ) → HasEdge rows at k ↔ IsReachedAt h r k

-- how many rules a role has; none if there is no role
abbrev pub rule_count : Option (List Rule) → ℕ
rule_count None = 0
rule_count (Some rules) = length rules

-- the places of the rules of a role, each with the place of a binding
abbrev pub role_places : Held → ℕ → ℕ → List GrantPlace
role_places h binding at =
    places_of binding (RoleAt at) (rule_count (option_map (λ r. r.rules) (slice_get h.roles at)))

-- the places of the rules of these cluster roles, each with the place of a binding
abbrev pub places_in : Held → ℕ → List ℕ → List GrantPlace
places_in h binding ps =
    flat_map (λ at. places_of binding (ClusterRoleAt at)
    (rule_count (option_map (λ r. r.rules) (slice_get h.cluster_roles at)))) ps

-- a text is the name of a role at a place of the set
abbrev pub IsNameIn : Held → List ℕ → Text → Type 0
IsNameIn h places w = (k : ℕ) × (s : ClusterRole) × HasPlace places k
    × (slice_get h.cluster_roles k ≡ Some s) × (s.name ≡ w)

-- the names of the roles at the places of the set, ascending
pub record AreNamesIn (h : Held) (places : List ℕ) (ws : List Text) : Type 0 where
  pub ordered : IsAscendingBy (λ w. w ∷ []) ws
  pub exact : (w : Text) → Contains ws w ↔ IsNameIn h places w
