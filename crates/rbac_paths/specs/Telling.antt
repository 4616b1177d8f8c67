-- The powers list exactly which principals can take which steps.
use Rattle.std.specs.Prelude.{◌≡◌, ◌↔◌, List, Option, Some, None, Any, Contains}
use Rattle.rbac_terms.specs.Text.{Text}
use Rattle.rbac_terms.specs.Targets.{Resource}
use Rattle.rbac_terms.specs.Principals.{Who}
use Rattle.rbac_model.specs.Policies.{Allows, PolicyView}
use Rattle.rbac_model.specs.Holders.{IsKeyFor}
use Rattle.rbac_paths.specs.Powers.{PowerView}
use Rattle.rbac_paths.specs.Steps.{CanBeNamed, StepRowView, asked_in, table}
use Rattle.rbac_steps.specs.declared.steps.Step.{Step}

-- a request of the step is allowed to the principal in that namespace, or in the whole cluster if
-- that is the empty namespace
pub record CanTake (p : PolicyView) (who : Who) (step : Step) (namespace : Text) : Type 0 where
  pub row : StepRowView
  pub verb : Text
  pub text : Text
  pub name : Text
  pub of_table : Contains table row
  pub of_step : row.step ≡ step
  pub of_verbs : Contains row.verbs verb
  pub of_resources : Contains row.resources text
  pub named : CanBeNamed row.names name
  pub allowed : Allows p.held who (asked_in row.counts namespace) verb (Resource row.group text name)

-- a power by a ClusterRoleBinding also holds in each namespace, a power by a RoleBinding only in
-- the namespace of this binding
abbrev pub AlsoHoldsIn : Option Text → Text → Type 0
AlsoHoldsIn None namespace = Unit {0}
AlsoHoldsIn (Some own) namespace = own ≡ namespace

-- a principal can take a step in a namespace, or in the whole cluster if that is the empty one,
-- exactly if a power of the step holds there whose key is the principal's or that of one of its
-- groups
abbrev pub TellAll : PolicyView → List PowerView → Type 0
TellAll p xs = (who : Who) (step : Step) (namespace : Text)
    → CanTake p who step namespace
    ↔ Any (λ x. (x.step ≡ step) × AlsoHoldsIn x.grant.binding.namespace namespace
    × IsKeyFor who x.who) xs
