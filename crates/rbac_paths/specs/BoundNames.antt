-- The names of the roles that rules let one bind.
use Rattle.std.specs.Prelude.{◌≡◌, ◌⊎◌, ◌↔◌, List, [], Any, Contains, IsTrue, codes}
use Rattle.std.specs.List.Sorted.{IsStrictlySortedBy}
use Rattle.rbac_terms.specs.Text.{Text, text_cmp}
use Rattle.rbac_terms.specs.Matching.{RuleAllows}
use Rattle.rbac_terms.specs.Targets.{Resource}
use Rattle.rbac_terms.specs.declared.matching.Rule.{Rule}
use Rattle.rbac_model.specs.Policies.{Held}
use Rattle.rbac_paths.specs.Rows.{MatchesRow}
use Rattle.rbac_paths.specs.Steps.{rbac, table}
use Rattle.rbac_paths.specs.declared.bound_names.BindWords.{BindWords}
use Rattle.rbac_steps.specs.declared.steps.Step.{Step}
use Rattle.rbac_steps.specs.declared.steps.Step.TheVariants.{Bind, Escalate}

-- the rule lets one bind roles, and this is one of its object names
abbrev pub BindsNamed : Rule → Text → Type 0
BindsNamed rule name = Any (λ row. (row.step ≡ Bind) × MatchesRow row rule) table
    × Contains rule.resource_names name

-- some rule that is written in a role has the property
abbrev pub SomeRule : (Rule → Type 0) → Held → Type 0
SomeRule Is h = Any (λ role. Any Is role.rules) h.roles
    ⊎ Any (λ role. Any Is role.rules) h.cluster_roles

-- the rule lets one bind roles of this kind, whatever their names
abbrev pub BindsAny : Text → Rule → Type 0
BindsAny kind rule = RuleAllows rule (codes "bind") (Resource rbac kind [])

-- the rule lets one write any rule into Roles, whatever their names
abbrev pub EscalatesRoles : Rule → Type 0
EscalatesRoles rule = RuleAllows rule (codes "escalate") (Resource rbac (codes "roles") [])

-- by these steps, a rule that lets one bind Roles takes over everything where it counts: it lets
-- one bind each cluster role, or write any rule into Roles
abbrev pub TakesAllToo : List Step → Rule → Type 0
TakesAllToo steps rule =
    BindsAny (codes "clusterroles") rule ⊎ (Contains steps Escalate × EscalatesRoles rule)

-- the rule lets one bind each Role, and doesn't take over everything, beside which no Role counts
abbrev pub BindsEachRole : List Step → Rule → Type 0
BindsEachRole steps rule = BindsAny (codes "roles") rule × (¬ TakesAllToo steps rule)

-- by these words, the rule takes over everything too
abbrev pub TakesMore : BindWords → Rule → Type 0
TakesMore b rule = RuleAllows rule b.verb.now (Resource b.group.now b.cluster_roles.now [])
    ⊎ (IsTrue b.escalates
    × RuleAllows rule b.escalate.now (Resource b.group.now b.roles.now []))

-- by these words, the rule lets one bind each Role, and doesn't take over everything
unfoldable pub BindsEach : BindWords → Rule → Type 0
BindsEach b rule = RuleAllows rule b.verb.now (Resource b.group.now b.roles.now [])
    × (¬ TakesMore b rule)

-- some rule that is written in a role lets one bind roles, and this is one of its object names; or
-- some such rule lets one bind each Role, and doesn't take over everything by these steps, and a
-- Role has this name
abbrev pub IsBoundName : List Step → Held → Text → Type 0
IsBoundName steps h name = SomeRule (λ rule. BindsNamed rule name) h
    ⊎ (SomeRule (BindsEachRole steps) h × Any (λ role. role.name ≡ name) h.roles)

-- exactly the names that rules list, and exactly the bound names: each in byte order, each once
pub record AreBoundNames (steps : List Step) (h : Held) (listed names : List Text) : Type 0 where
  pub listed_ascending : IsStrictlySortedBy text_cmp listed
  pub ascending : IsStrictlySortedBy text_cmp names
  pub of_rules : (name : Text) → Contains listed name ↔ SomeRule (λ rule. BindsNamed rule name) h
  pub exact : (name : Text) → Contains names name ↔ IsBoundName steps h name
