-- Which rules nodes have, and which requests nodes allow.
use Rattle.std.specs.Prelude.{◌≡◌, ◌↔◌, List, [], ◌∷◌, Option, Some, Any, Contains, codes}
use Rattle.rbac_terms.specs.Text.{Text}
use Rattle.rbac_terms.specs.Targets.{What}
use Rattle.rbac_terms.specs.Matching.{RuleAllows}
use Rattle.rbac_terms.specs.declared.matching.Rule.{Rule}
use Rattle.rbac_model.specs.Policies.{Allows, AreRulesOf, BindingNames, Held, Live, PolicyView, Source}
use Rattle.rbac_model.specs.Policies.{InRole, InClusterRole, SourcedRule}
use Rattle.rbac_paths.specs.Nodes.{NodeView, Somebody, ClusterRoleIn, OwnRole, EverythingIn}

-- a rule of the role allows the verb on the target; an aggregated role has the rules that it
-- gathers
abbrev pub RoleAllows : Held → Source → Text → What → Type 0
RoleAllows h role verb t = (rules : List SourcedRule) × AreRulesOf h role rules
    × Any (λ r. RuleAllows r.rule verb t) rules

-- a node allows a request (own): a user or a group, if the request is allowed to it; a role, if one
-- of its rules allows the request, where the role is bound; everything in a scope, if the request
-- is made there
abbrev pub NodeAllows : PolicyView → NodeView → Text → Text → What → Type 0
NodeAllows p (Somebody who) namespace verb t = Allows p.held who namespace verb t
NodeAllows p (ClusterRoleIn role scope) namespace verb t = Live scope namespace t
    × RoleAllows p.held (InClusterRole role) verb t
NodeAllows p (OwnRole role) namespace verb t = Live (Some role.namespace) namespace t
    × RoleAllows p.held (InRole role) verb t
NodeAllows p (EverythingIn scope) namespace verb t = Live scope namespace t

-- a holding: a rule that a node has, and where the rule counts, which is the namespace `home`, or
-- the whole cluster if there is none
pub record HoldingView : Type 0 where
  pub home : Option Text
  pub rule : Rule

-- the rule that allows every request
abbrev pub rule_of_all : Rule
rule_of_all = record {
  verbs = codes "*" ∷ [];
  groups = codes "*" ∷ [];
  resources = codes "*" ∷ [];
  resource_names = [];
  urls = codes "*" ∷ [];
}

-- the role has this rule; an aggregated role has the rules that it gathers
abbrev pub HasRoleRule : Held → Source → Rule → Type 0
HasRoleRule h role rule = (rules : List SourcedRule) × AreRulesOf h role rules
    × Any (λ r. r.rule ≡ rule) rules

-- the node has this holding
abbrev pub IsHolding : PolicyView → NodeView → HoldingView → Type 0
IsHolding p (Somebody who) h = Any (λ g. BindingNames g.binding who × (g.binding.namespace ≡ h.home)
    × (g.rule.rule ≡ h.rule)) p.grants
IsHolding p (ClusterRoleIn role scope) h = (scope ≡ h.home)
    × HasRoleRule p.held (InClusterRole role) h.rule
IsHolding p (OwnRole role) h = (Some role.namespace ≡ h.home)
    × HasRoleRule p.held (InRole role) h.rule
IsHolding p (EverythingIn scope) h = (scope ≡ h.home) × (rule_of_all ≡ h.rule)

-- exactly the holdings of the node
abbrev pub AreHoldings : PolicyView → NodeView → List HoldingView → Type 0
AreHoldings p x hs = (h : HoldingView) → Contains hs h ↔ IsHolding p x h

-- the holdings of a node decide which requests it allows
abbrev pub AllowBy : PolicyView → NodeView → Type 0
AllowBy p x = (namespace verb : Text) (t : What) → NodeAllows p x namespace verb t
    ↔ ((h : HoldingView) × IsHolding p x h × Live h.home namespace t × RuleAllows h.rule verb t)
