-- The rows of the table, as the program has them, and which rules match them.
use Rattle.std.specs.Prelude.{◌≡◌, ◌↔◌, ◌⊎◌, List, [], ◌∷◌, ◌++◌, Any, Contains, map}
use Rattle.rbac_terms.specs.Text.{Text}
use Rattle.rbac_terms.specs.Matching.{NameMatches, ResourceWordMatches, VerbOk, WordMatches}
use Rattle.rbac_terms.specs.declared.matching.Rule.{Rule}
use Rattle.rbac_paths.specs.Steps.{CanBeNamed, StepRowView}
use Rattle.rbac_steps.specs.declared.steps.Step.{Step}
use Rattle.rbac_paths.specs.declared.table.Names.{Names}
use Rattle.rbac_paths.specs.declared.table.Row.{Row}

-- the row of the table whose texts these references point to
abbrev pub row_view : Row → StepRowView
row_view r = record {
  step = r.step;
  names = r.names;
  counts = r.counts;
  verbs = map (λ t. t.now) r.verbs.now;
  group = r.group.now;
  resources = map (λ t. t.now) r.resources.now;
  over = r.over;
}

-- a resource word of the rule matches the resource text
abbrev pub HasRowResource : Rule → Text → Type 0
HasRowResource rule text = Any (λ w. ResourceWordMatches w text) rule.resources

-- the rule matches a verb, the API group and a resource of the row
abbrev pub MatchesRow : StepRowView → Rule → Type 0
MatchesRow r rule = Any (VerbOk rule) r.verbs × Any (λ w. WordMatches w r.group) rule.groups
    × Any (HasRowResource rule) r.resources

-- the rule's object names match an object name that a request of the row can have
abbrev pub HasRowName : Names → Rule → Type 0
HasRowName names rule = (name : Text) × CanBeNamed names name × NameMatches rule.resource_names name

-- exactly the rows of the step among all rows
abbrev pub AreOfStep : Step → List StepRowView → List StepRowView → Type 0
AreOfStep step all rows = (r : StepRowView) → Contains rows r ↔ (Contains all r × (r.step ≡ step))

-- the row is added if it is a row of the step
abbrev pub AddsRow : Step → StepRowView → List StepRowView → List StepRowView → Type 0
AddsRow step r old new = ((r.step ≡ step) × (new ≡ old ++ r ∷ []))
    ⊎ ((¬ (r.step ≡ step)) × (new ≡ old))
