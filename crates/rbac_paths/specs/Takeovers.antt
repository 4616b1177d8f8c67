-- What rules take over by the rows of the table that they match.
use Rattle.std.specs.Prelude.{◌≡◌, ◌↔◌, ℕ, List, [], Some, Any, Contains, slice_get, slice_index_or}
use Rattle.rbac_terms.specs.declared.matching.Rule.{Rule}
use Rattle.rbac_model.specs.Policies.{Held, SourcedRule, sourced_at}
use Rattle.rbac_model.specs.declared.places.RolePlace.{RolePlace}
use Rattle.rbac_model.specs.declared.places.RolePlace.TheVariants.{RoleAt, ClusterRoleAt}
use Rattle.rbac_paths.specs.Rows.{MatchesRow}
use Rattle.rbac_paths.specs.Steps.{StepRowView, table}
use Rattle.rbac_steps.specs.declared.steps.Step.{Step}
use Rattle.rbac_paths.specs.declared.takeover.Takeover.{Takeover}

-- what the row takes over, where its requests count, and which object names they have
abbrev pub takeover_of : StepRowView → Takeover
takeover_of row = record { names = row.names; counts = row.counts; over = row.over }

-- the rule matches a row of the step that has this takeover
unfoldable pub HasTakeover : Rule → Takeover → Step → Type 0
HasTakeover rule t step = Any
    (λ row. (row.step ≡ step) × ((takeover_of row ≡ t) × MatchesRow row rule)) table

-- exactly the takeovers of the rows of these steps that the rule matches
abbrev pub AreTakeovers : List Step → Rule → List Takeover → Type 0
AreTakeovers steps rule ts = (t : Takeover) → Contains ts t ↔ Any (HasTakeover rule t) steps

-- for each of these rules, exactly its takeovers by these steps
abbrev pub AreTakeoversOfEach : List Step → List Rule → List (List Takeover) → Type 0
AreTakeoversOfEach steps rules all = (i : ℕ) (rule : Rule) → slice_get rules i ≡ Some rule
    → AreTakeovers steps rule (slice_index_or all i [])

-- for each Role and each cluster role, what each of its rules takes over
pub record TakeoversView : Type 0 where
  pub roles : List (List (List Takeover))
  pub cluster_roles : List (List (List Takeover))

-- what each rule of the role at that place takes over; empty past the last role
abbrev pub takeovers_at : TakeoversView → RolePlace → List (List Takeover)
takeovers_at all (RoleAt at) = slice_index_or all.roles at []
takeovers_at all (ClusterRoleAt at) = slice_index_or all.cluster_roles at []

-- for each rule of each role that is held, exactly its takeovers by these steps
abbrev pub HaveTakeovers : Held → List Step → TakeoversView → Type 0
HaveTakeovers h steps all = (role : RolePlace) (i : ℕ) (r : SourcedRule)
    → sourced_at h role i ≡ Some r
    → AreTakeovers steps r.rule (slice_index_or (takeovers_at all role) i [])
