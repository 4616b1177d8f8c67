-- Roles whose rules the role of the same name in another policy covers.
use Rattle.std.specs.Prelude.{◌≡◌, ℕ, List, Option, Some, slice_get, length}
use Rattle.rbac_terms.specs.declared.matching.Rule.{Rule}
use Rattle.rbac_model.specs.Policies.{Held}
use Rattle.rbac_covering.specs.Covering.{CoversAll}
use Rattle.rbac_model.specs.declared.places.RolePlace.{RolePlace}
use Rattle.rbac_model.specs.declared.places.RolePlace.TheVariants.{RoleAt, ClusterRoleAt}
use Rattle.rbac_diff.specs.declared.covered_roles.CoveredRoles.{CoveredRoles}

-- each of these rules covers the one at its place in `others`, which is as long
pub record CoversEach (rules others : List Rule) : Type 0 where
  pub as_many : length rules ≡ length others
  pub each : (at : ℕ) (a b : Rule) → slice_get rules at ≡ Some a → slice_get others at ≡ Some b
      → CoversAll a b

-- the rules of the role at that place among the others cover this role's
abbrev pub IsCoveredAt : {T : Type 0} → (T → List Rule) → T → List T → ℕ → Type 0
IsCoveredAt {T} rules role others at = (s : T) → slice_get others at ≡ Some s
    → CoversEach (rules s) (rules role)

-- where the list has a place for a role, the rules of the role at that place among the others cover
-- its own
abbrev pub AreCoveredAt :
    {T : Type 0} → (T → List Rule) → List T → List (Option ℕ) → List T → Type 0
AreCoveredAt {T} rules roles places others = (i at : ℕ) (r : T)
    → slice_get places i ≡ Some (Some at) → slice_get roles i ≡ Some r
    → IsCoveredAt rules r others at

-- this holds for the roles, and for the cluster roles
pub record AreCoveredRoles (own : Held) (covered : CoveredRoles) (other : Held) : Type 0 where
  pub roles : AreCoveredAt (λ r. r.rules) own.roles covered.roles.items other.roles
  pub cluster_roles :
      AreCoveredAt (λ r. r.rules) own.cluster_roles covered.cluster_roles.items other.cluster_roles

-- the list has the second place for the role at the first one
abbrev pub HasPair : CoveredRoles → RolePlace → RolePlace → Type 0
HasPair covered (RoleAt own) (RoleAt other) =
    slice_get covered.roles.items own ≡ Some (Some other)
HasPair covered (ClusterRoleAt own) (ClusterRoleAt other) =
    slice_get covered.cluster_roles.items own ≡ Some (Some other)
HasPair covered _ _ = ⊥
