-- Which grants and holdings decide what a node takes over by some steps: those whose rules match a
-- row of the table.
use Rattle.std.specs.Prelude.{◌≡◌, ◌↔◌, ◌+◌, ◌<◌, ◌≤◌, ℕ, List, [], ◌∷◌, Option, Some, Any, Contains}
use Rattle.std.specs.Prelude.{MatchOption}
use Rattle.std.specs.Prelude.{length, slice_get, slice_index_or}
use Rattle.rbac_terms.specs.Principals.{Who}
use Rattle.rbac_terms.specs.declared.matching.Rule.{Rule}
use Rattle.rbac_model.specs.Policies.{GrantView, IsOfBinding, PolicyView}
use Rattle.rbac_subjects.specs.Bound.{IsNamedBy}
use Rattle.rbac_paths.specs.Having.{HoldingView}
use Rattle.rbac_paths.specs.Nodes.{NodeView, Somebody, ClusterRoleIn, OwnRole, EverythingIn}
use Rattle.rbac_paths.specs.Rows.{MatchesRow}
use Rattle.rbac_paths.specs.Steps.{table}
use Rattle.rbac_paths.specs.Told.{HoldingTakes, grant_holding}
use Rattle.rbac_steps.specs.declared.steps.Step.{Step}

-- the rule matches a row of the step
unfoldable pub MatchesStep : Rule → Step → Type 0
MatchesStep rule step = Any (λ row. (row.step ≡ step) × MatchesRow row rule) table

-- the rule matches a row of one of the steps
unfoldable pub SomeRowMatches : List Step → Rule → Type 0
SomeRowMatches steps rule = Any (MatchesStep rule) steps

-- the grant with number n is a taking grant: its rule matches a row of one of the steps
abbrev pub IsTakingAt : PolicyView → List Step → ℕ → Type 0
IsTakingAt p steps n = (g : GrantView) × (slice_get p.grants n ≡ Some g)
    × SomeRowMatches steps g.rule.rule

-- for each binding, exactly the numbers of its taking grants
abbrev pub AreTakingGrants : PolicyView → List Step → List (List ℕ) → Type 0
AreTakingGrants p steps lists = (n at : ℕ) → Contains (slice_index_or lists at []) n
    ↔ (IsOfBinding p n at × IsTakingAt p steps n)

-- for each binding, only numbers of its own grants
abbrev pub AreGrantsByBinding : PolicyView → List (List ℕ) → Type 0
AreGrantsByBinding p grants = (n at : ℕ) → Contains (slice_index_or grants at []) n → IsOfBinding p n at

-- exactly the places of the bindings that name the user or group and have one of the grants
abbrev pub AreGrantingPlaces : PolicyView → List (List ℕ) → Who → List ℕ → Type 0
AreGrantingPlaces p grants who places = (at : ℕ) → Contains places at
    ↔ ((n : ℕ) × Contains (slice_index_or grants at []) n × IsNamedBy p who n)

-- the places of a node: those of bindings for a user or a group, and one of its own for each other
-- node
abbrev pub ArePlacesOf : PolicyView → List (List ℕ) → ℕ → NodeView → List ℕ → Type 0
ArePlacesOf p grants own (Somebody who) places = AreGrantingPlaces p grants who places
ArePlacesOf p grants own (ClusterRoleIn role scope) places = places ≡ own ∷ []
ArePlacesOf p grants own (OwnRole role) places = places ≡ own ∷ []
ArePlacesOf p grants own (EverythingIn scope) places = places ≡ own ∷ []

-- the places of each of the first `count` nodes; own places come behind those of all bindings
pub record ArePlaces (p : PolicyView) (grants : List (List ℕ)) (ys : List NodeView) (count : ℕ)
    (all : List (List ℕ)) : Type 0 where
  pub len : length all ≡ count
  pub each : (k : ℕ) (y : NodeView) → k < count → slice_get ys k ≡ Some y
      → ArePlacesOf p grants (length grants + k) y (slice_index_or all k [])

-- exactly the numbers of the taking grants whose bindings name the user or group
abbrev pub AreTakingNumbers : PolicyView → List Step → Who → List ℕ → Type 0
AreTakingNumbers p steps who numbers = (n : ℕ) → Contains numbers n
    ↔ (IsNamedBy p who n × IsTakingAt p steps n)

-- the numbers of a node's taking grants; only a user or a group has grants
abbrev pub AreNumbersOf : PolicyView → List Step → NodeView → List ℕ → Type 0
AreNumbersOf p steps (Somebody who) numbers = AreTakingNumbers p steps who numbers
AreNumbersOf p steps (ClusterRoleIn role scope) numbers = numbers ≡ []
AreNumbersOf p steps (OwnRole role) numbers = numbers ≡ []
AreNumbersOf p steps (EverythingIn scope) numbers = numbers ≡ []

-- exactly the holdings that the grants with these numbers give
abbrev pub GiveHoldings : PolicyView → List ℕ → List HoldingView → Type 0
GiveHoldings p numbers hs = (h : HoldingView) → Contains hs h
    ↔ ((n : ℕ) × Contains numbers n
    × ((g : GrantView) × (slice_get p.grants n ≡ Some g) × (grant_holding g ≡ h)))

-- the rule of the grant with that number takes over y by the step
abbrev pub TakesBy : PolicyView → Step → NodeView → ℕ → Type 0
TakesBy p step y n = (g : GrantView) × (slice_get p.grants n ≡ Some g)
    × HoldingTakes step (grant_holding g) y

-- the least of these numbers whose grant takes over y by the step, if there is one
abbrev pub IsLeastTaking : PolicyView → Step → NodeView → List ℕ → Option ℕ → Type 0
IsLeastTaking p step y numbers o = MatchOption o
    ((n : ℕ) → Contains numbers n → ¬ TakesBy p step y n)
    (λ least. Contains numbers least × TakesBy p step y least
    × ((n : ℕ) → Contains numbers n → TakesBy p step y n → least ≤ n))

-- whatever node it is
abbrev pub IsAnyNode : NodeView → Type 0
IsAnyNode y = Unit {0}
