-- Which rules take over which nodes, by the rows of the table.
use Rattle.std.specs.Prelude.{◌≡◌, ◌⊎◌, [], Option, Some, None, Any, Contains, codes}
use Rattle.rbac_terms.specs.Text.{BeginsWith, Text}
use Rattle.rbac_terms.specs.Principals.{AsUser, AsMember}
use Rattle.rbac_terms.specs.Targets.{Resource}
use Rattle.rbac_terms.specs.Matching.{RuleAllows}
use Rattle.rbac_terms.specs.declared.matching.Rule.{Rule}
use Rattle.rbac_model.specs.Policies.{Live, PolicyView}
use Rattle.rbac_paths.specs.Having.{NodeAllows}
use Rattle.rbac_paths.specs.Nodes.{NodeView, Somebody, ClusterRoleIn, OwnRole, EverythingIn}
use Rattle.rbac_paths.specs.Nodes.{IsAccountNamed}
use Rattle.rbac_paths.specs.Steps.{IsNameAsked, StepRowView, asked_in, kube_system, table}
use Rattle.rbac_steps.specs.declared.steps.Step.{Step}
use Rattle.rbac_paths.specs.declared.table.Counts.{Counts}
use Rattle.rbac_paths.specs.declared.table.Counts.TheVariants as counted
use Rattle.rbac_paths.specs.declared.table.Over.{Over}
use Rattle.rbac_paths.specs.declared.table.Over.TheVariants as over

-- the namespace of a scope; empty for the whole cluster
abbrev pub scope_namespace : Option Text → Text
scope_namespace None = []
scope_namespace (Some namespace) = namespace

-- a row over everything in a scope takes it over there if it counts in all namespaces, and
-- otherwise only in the whole cluster
abbrev pub IsInReach : Counts → Option Text → Type 0
IsInReach counted.ClusterWide scope = scope ≡ None
IsInReach counted.InNamespaces scope = Unit {0}
IsInReach counted.InKubeSystem scope = scope ≡ None

-- a group that bootstrap tokens can have (Authenticating with Bootstrap Tokens)
abbrev pub IsBootstrapper : Text → Type 0
IsBootstrapper group = (group ≡ codes "system:bootstrappers")
    ⊎ BeginsWith group (codes "system:bootstrappers:")

-- a row takes over the node by requests in that namespace, for a node with that name (own)
abbrev pub IsOver : Over → Counts → NodeView → Text → Text → Type 0
IsOver over.Users counts (Somebody (AsUser user given)) namespace name = (namespace ≡ [])
    × (name ≡ user) × ((n m : Text) → ¬ IsAccountNamed (AsUser user given) n m)
IsOver over.Groups counts (Somebody (AsMember group)) namespace name = (namespace ≡ [])
    × (name ≡ group)
IsOver over.Bootstrappers counts (Somebody (AsMember group)) namespace name =
    (namespace ≡ kube_system) × (name ≡ group) × IsBootstrapper group
IsOver over.Accounts counts (Somebody who) namespace name = IsAccountNamed who namespace name
IsOver over.Everything counts (EverythingIn scope) namespace name =
    (namespace ≡ scope_namespace scope) × (name ≡ []) × IsInReach counts scope
IsOver over.EverythingInNamespace counts (EverythingIn (Some there)) namespace name =
    (namespace ≡ there) × (name ≡ [])
IsOver over.ClusterRoles counts (ClusterRoleIn role scope) namespace name =
    (namespace ≡ scope_namespace scope) × (name ≡ role.name)
IsOver over.Roles counts (OwnRole role) namespace name = (namespace ≡ role.namespace)
    × (name ≡ role.name)
IsOver over.Nothing counts y namespace name = ⊥
IsOver _ _ _ namespace name = ⊥

-- a rule that counts in `home`, which is a namespace or the whole cluster, allows a request of the
-- row that takes over the node
pub record RowTakes (row : StepRowView) (home : Option Text) (rule : Rule) (y : NodeView) : Type 0 where
  pub namespace : Text
  pub own : Text
  pub verb : Text
  pub text : Text
  pub name : Text
  pub over : IsOver row.over row.counts y namespace own
  pub of_verbs : Contains row.verbs verb
  pub of_resources : Contains row.resources text
  pub named : IsNameAsked row.names own name
  pub live : Live home (asked_in row.counts namespace) (Resource row.group text name)
  pub allows : RuleAllows rule verb (Resource row.group text name)

-- a rule that counts in `home` allows a request of the step that takes over the node
abbrev pub RuleTakes : Step → Option Text → Rule → NodeView → Type 0
RuleTakes step home rule y = Any (λ row. (row.step ≡ step) × RowTakes row home rule y) table

-- x can take over y by the step: x allows a request of the step that takes over y (own)
pub record CanTakeOver (p : PolicyView) (x : NodeView) (step : Step) (y : NodeView) : Type 0 where
  pub row : StepRowView
  pub namespace : Text
  pub own : Text
  pub verb : Text
  pub text : Text
  pub name : Text
  pub of_table : Contains table row
  pub of_step : row.step ≡ step
  pub over : IsOver row.over row.counts y namespace own
  pub of_verbs : Contains row.verbs verb
  pub of_resources : Contains row.resources text
  pub named : IsNameAsked row.names own name
  pub allowed : NodeAllows p x (asked_in row.counts namespace) verb (Resource row.group text name)
