-- The place of a cluster role in a list that contains it.
use Rattle.std.proofs.Common.{◌≡◌, ◌∙◌, ℕ, List, Result, Ok, Err, Contains, ap, get_or, length, refl}
use Rattle.std.specs.Prelude.{IsSomeAnd, Some, slice_get}
use Rattle.std.specs.Result.{result_ok}
use Rattle.std.specs.List.Sorted.{IsBinarySearchResult, IsSearchInRange}
use Rattle.std.proofs.lemmas.List.Elements.{Contains-get_or}
use Rattle.std.proofs.lemmas.Option.{slice_get-get_or}
use Rattle.rbac_terms.specs.declared.granting.ClusterRole.{ClusterRole}
use Rattle.rbac_model.specs.Lists.{IsAscendingBy, by_name}
use Rattle.rbac_model.specs.Policies.{cluster_role_name}
use Rattle.rbac_model.proofs.NamePlaces.{none_named, same_name, searched}
use Rattle.rbac_model.proofs.OneList.{one_of_name}

module _ (roles : List ClusterRole) (ascending : IsAscendingBy cluster_role_name roles) (role : ClusterRole) (among : Contains roles role) where
  pub found_place : (r : Result ℕ ℕ) → IsSearchInRange r (length roles) → IsBinarySearchResult (λ y. by_name cluster_role_name y role) roles r → IsSomeAnd (result_ok r) (λ at. slice_get roles at ≡ Some role)
  found_place (Ok i) in_range equal =
      let found = (searched cluster_role_name roles ascending role (Ok i) in_range equal).found in
      let there = get_or roles i role in
      let same : there ≡ role = one_of_name cluster_role_name roles there role ascending (Contains-get_or roles i role found.0) among (same_name cluster_role_name there role (found.1 role)) in
      slice_get-get_or roles i role found.0 ∙ ap (λ (r : ClusterRole). Some r) same
  found_place (Err i) in_range parted =
      absurd (none_named cluster_role_name roles ascending role i (searched cluster_role_name roles ascending role (Err i) in_range parted).absent (among.0, role, among.1, among.2, refl))
