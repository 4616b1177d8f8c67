-- The namespace and the name in requests that take over a node.
use Rattle.std.specs.Prelude.{◌≡◌, ◌↔◌, Any, Contains, List, Option, MatchOption}
use Rattle.rbac_terms.specs.Text.{Text}
use Rattle.rbac_terms.specs.Principals.{Who, AsUser, AsMember}
use Rattle.rbac_terms.specs.Targets.{Resource}
use Rattle.rbac_terms.specs.Matching.{NameMatches, RuleAllows}
use Rattle.rbac_terms.specs.declared.matching.Rule.{Rule}
use Rattle.rbac_model.specs.Policies.{Live}
use Rattle.rbac_paths.specs.Having.{HoldingView}
use Rattle.rbac_paths.specs.Nodes.{NodeView}
use Rattle.rbac_paths.specs.Steps.{IsNameAsked, StepRowView, asked_in}
use Rattle.rbac_paths.specs.Taking.{IsBootstrapper, RowTakes}
use Rattle.rbac_paths.specs.Told.{HoldingTakes}
use Rattle.rbac_paths.specs.declared.table.Names.{Names}
use Rattle.rbac_steps.specs.declared.steps.Step.{Step}
use Rattle.rbac_paths.specs.declared.taking.Asked.{Asked}

-- the answer is the only namespace and name with the property, or nothing if none have it
abbrev pub Asks : (Text → Text → Type 0) → Option Asked → Type 0
Asks Is answer = MatchOption answer
    ((namespace own : Text) → ¬ Is namespace own)
    (λ a. (namespace own : Text) → Is namespace own
    ↔ ((namespace ≡ a.namespace.now) × (own ≡ a.own.now)))

-- the principal is a user
abbrev pub IsAnyUser : Who → Type 0
IsAnyUser (AsUser name given) = Unit {0}
IsAnyUser (AsMember group) = ⊥

-- the principal is a member of a group that bootstrap tokens can have
abbrev pub IsBootstrapperGroup : Who → Type 0
IsBootstrapperGroup (AsUser name given) = ⊥
IsBootstrapperGroup (AsMember group) = IsBootstrapper group

-- the rule's object names match an object name in the requests of a row for a node with that name
abbrev pub HasRowNameFor : Names → Text → Rule → Type 0
HasRowNameFor names own rule = (name : Text) × IsNameAsked names own name × NameMatches rule.resource_names name

-- the rule allows a request of the row for a node with that name
pub record AllowsRowFor (r : StepRowView) (own : Text) (rule : Rule) : Type 0 where
  pub verb : Text
  pub text : Text
  pub name : Text
  pub of_verbs : Contains r.verbs verb
  pub of_resources : Contains r.resources text
  pub named : IsNameAsked r.names own name
  pub allows : RuleAllows rule verb (Resource r.group text name)

-- the holding counts for the row's requests in that namespace, and its rule allows one of them for
-- a node with that name
abbrev pub AllowsAsked : StepRowView → Text → Text → HoldingView → Type 0
AllowsAsked r namespace own h =
    ((text name : Text) → Live h.home (asked_in r.counts namespace) (Resource r.group text name))
    × AllowsRowFor r own h.rule

-- a row, with the namespace and the name in its requests that take over a node
pub record AskedRowView : Type 0 where
  pub row : StepRowView
  pub namespace : Text
  pub own : Text

-- the holding allows one of these requests of the row
abbrev pub AllowsAskedRow : HoldingView → AskedRowView → Type 0
AllowsAskedRow h a = AllowsAsked a.row a.namespace a.own h

-- the answer describes the requests of the row that take over y: a holding takes over y by the row
-- exactly if it allows one of them; without an answer, no holding takes over y by the row
abbrev pub RowAsks : StepRowView → NodeView → Option AskedRowView → Type 0
RowAsks r y answer = MatchOption answer
    ((h : HoldingView) → ¬ RowTakes r h.home h.rule y)
    (λ a. (h : HoldingView) → AllowsAskedRow h a ↔ RowTakes r h.home h.rule y)

-- a holding takes over y by one of these rows exactly if it allows a request of one of the asked
-- rows
abbrev pub AreAskedFor : List StepRowView → NodeView → List AskedRowView → Type 0
AreAskedFor rows y asked = (h : HoldingView) → Any (AllowsAskedRow h) asked
    ↔ Any (λ row. RowTakes row h.home h.rule y) rows

-- a holding takes over y by the step exactly if it allows a request of one of the asked rows
abbrev pub AreAskedBy : Step → NodeView → List AskedRowView → Type 0
AreAskedBy step y asked = (h : HoldingView) → Any (AllowsAskedRow h) asked ↔ HoldingTakes step h y
