-- what a search by name among roles finds, and what references are to
use Rattle.std.proofs.Common.{◌≡◌, ℕ, ◌<◌, [], length, Any, HoldsAt, get_or, ap, List, option_map, Result, Ok, Err, MatchOption}
use Rattle.std.specs.Prelude.{Option, Some, None}
use Rattle.std.proofs.lemmas.Option.{slice_get-get_or}
use Rattle.std.proofs.lemmas.List.Elements.{Contains-get_or}
use Rattle.std.specs.Result.{result_ok}
use Rattle.std.specs.List.Sorted.{IsSearchInRange, IsBinarySearchResult}
use Rattle.rbac_terms.specs.Text.{Text}
use Rattle.rbac_model.specs.Lists.{by_name, IsAscendingBy}
use Rattle.rbac_model.specs.Policies.{Held, Source, InRole, InClusterRole, IsRefTo, role_name, cluster_role_name}
use Rattle.rbac_model.specs.Places.{IsRefAt}
use Rattle.rbac_model.specs.declared.places.RolePlace.TheVariants.{RoleAt, ClusterRoleAt}
use Rattle.rbac_terms.specs.declared.granting.RoleRef.TheVariants.{Role as ToRole, ClusterRole as ToClusterRole}
use Rattle.rbac_terms.specs.declared.granting.Role.{Role}
use Rattle.rbac_terms.specs.declared.granting.ClusterRole.{ClusterRole}
use Rattle.rbac_model.proofs.NamePlaces.{searched, none_named, same_name}

module _ {X : Type 0} (name : X → List Text) (xs : List X) (ascending : IsAscendingBy name xs) (x : X) where
  by_search : (r : Result ℕ ℕ) → IsSearchInRange r (length xs) → IsBinarySearchResult (λ y. by_name name y x) xs r
      → MatchOption (result_ok r) (Any (λ y. name y ≡ name x) xs → ⊥) (λ at. (at < length xs) × HoldsAt (λ y. name y ≡ name x) xs at)
  by_search (Ok i) in_range equal = let f = (searched name xs ascending x (Ok i) in_range equal).found in (f.0, λ d. same_name name _ x (f.1 d))
  by_search (Err i) in_range parted = λ w. none_named name xs ascending x i (searched name xs ascending x (Err i) in_range parted).absent w

pub same_role : (a b : Role) → role_name a ≡ role_name b → (a.namespace ≡ b.namespace) × (a.name ≡ b.name)
same_role a b e = (cc, cc)

pub same_cluster_role : (a b : ClusterRole) → cluster_role_name a ≡ cluster_role_name b → a.name ≡ b.name
same_cluster_role a b e = cc

-- a role of that namespace and name
abbrev pub role_named : Text → Text → Role
role_named namespace name = record { namespace = namespace; name = name; rules = [] }

abbrev pub cluster_role_named : Text → ClusterRole
cluster_role_named name = record { name = name; labels = []; rules = []; aggregation = None }

pub role_found : (xs : List Role) (namespace name : Text) (r : Result ℕ ℕ) → IsAscendingBy role_name xs → IsSearchInRange r (length xs) → IsBinarySearchResult (λ y. by_name role_name y (role_named namespace name)) xs r
    → MatchOption (result_ok r) (Any (λ r. (r.namespace ≡ namespace) × (r.name ≡ name)) xs → ⊥) (λ at. (at < length xs) × HoldsAt (λ r. (r.namespace ≡ namespace) × (r.name ≡ name)) xs at)
role_found xs namespace name (Ok i) ascending in_range found =
    let f = by_search role_name xs ascending (role_named namespace name) (Ok i) in_range found in
    (f.0, λ d. same_role (get_or xs i d) (role_named namespace name) (f.1 d))
role_found xs namespace name (Err i) ascending in_range found =
    λ w. by_search role_name xs ascending (role_named namespace name) (Err i) in_range found (w.0, w.1, w.2, w.3, cc)

pub cluster_role_found : (xs : List ClusterRole) (name : Text) (r : Result ℕ ℕ) → IsAscendingBy cluster_role_name xs → IsSearchInRange r (length xs) → IsBinarySearchResult (λ y. by_name cluster_role_name y (cluster_role_named name)) xs r
    → MatchOption (result_ok r) (Any (λ r. r.name ≡ name) xs → ⊥) (λ at. (at < length xs) × HoldsAt (λ r. r.name ≡ name) xs at)
cluster_role_found xs name (Ok i) ascending in_range found =
    let f = by_search cluster_role_name xs ascending (cluster_role_named name) (Ok i) in_range found in
    (f.0, λ d. same_cluster_role (get_or xs i d) (cluster_role_named name) (f.1 d))
cluster_role_found xs name (Err i) ascending in_range found =
    λ w. by_search cluster_role_name xs ascending (cluster_role_named name) (Err i) in_range found (w.0, w.1, w.2, w.3, cc)

pub role_ref : (h : Held) (namespace name : Text) (at : ℕ) → (at < length h.roles) × HoldsAt (λ r. (r.namespace ≡ namespace) × (r.name ≡ name)) h.roles at → IsRefAt h (Some namespace) (ToRole name) (RoleAt at)
role_ref h namespace name at f =
    let d = role_named namespace name in
    (InRole (get_or h.roles at d), ap (option_map (λ r. InRole r)) (slice_get-get_or h.roles at d f.0), (Contains-get_or h.roles at d f.0, (f.1 d).0, (f.1 d).1))

pub cluster_role_ref : (h : Held) (namespace : Option Text) (name : Text) (at : ℕ) → (at < length h.cluster_roles) × HoldsAt (λ r. r.name ≡ name) h.cluster_roles at → IsRefAt h namespace (ToClusterRole name) (ClusterRoleAt at)
cluster_role_ref h None name at f =
    let d = cluster_role_named name in
    (InClusterRole (get_or h.cluster_roles at d), ap (option_map (λ r. InClusterRole r)) (slice_get-get_or h.cluster_roles at d f.0), (Contains-get_or h.cluster_roles at d f.0, f.1 d))
cluster_role_ref h (Some namespace) name at f =
    let d = cluster_role_named name in
    (InClusterRole (get_or h.cluster_roles at d), ap (option_map (λ r. InClusterRole r)) (slice_get-get_or h.cluster_roles at d f.0), (Contains-get_or h.cluster_roles at d f.0, f.1 d))

-- none is to a role that is not there
pub no_role_ref : (h : Held) (namespace name : Text) → (Any (λ r. (r.namespace ≡ namespace) × (r.name ≡ name)) h.roles → ⊥) → (source : Source) → IsRefTo h (Some namespace) (ToRole name) source → ⊥
no_role_ref h namespace name none (InRole r) ref = none (ref.0.0, r, ref.0.1, ref.0.2, (ref.1, ref.2))
no_role_ref h namespace name none (InClusterRole r) ref = ref

pub no_cluster_role_ref : (h : Held) (namespace : Option Text) (name : Text) → (Any (λ r. r.name ≡ name) h.cluster_roles → ⊥) → (source : Source) → IsRefTo h namespace (ToClusterRole name) source → ⊥
no_cluster_role_ref h None name none (InClusterRole r) ref = none (ref.0.0, r, ref.0.1, ref.0.2, ref.1)
no_cluster_role_ref h None name none (InRole r) ref = ref
no_cluster_role_ref h (Some namespace) name none (InClusterRole r) ref = none (ref.0.0, r, ref.0.1, ref.0.2, ref.1)
no_cluster_role_ref h (Some namespace) name none (InRole r) ref = ref
