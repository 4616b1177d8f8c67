-- The holdings of nodes, and what holdings take over.
use Rattle.std.specs.Prelude.{◌≡◌, ◌↔◌, ◌⊎◌, ℕ, ◌<◌, ◌≤◌, List, [], ◌∷◌, Option, Some, Any, Contains}
use Rattle.std.specs.Prelude.{map, slice_get}
use Rattle.rbac_terms.specs.Text.{Text}
use Rattle.rbac_terms.specs.declared.granting.ClusterRole.{ClusterRole}
use Rattle.rbac_terms.specs.declared.matching.Rule.{Rule}
use Rattle.rbac_model.specs.Lists.{IsFirstAt}
use Rattle.rbac_model.specs.Places.{IsPlainAt, IsReachedAt}
use Rattle.rbac_model.specs.Policies.{AreGathered, GrantView, Held, IsPlain, PolicyView}
use Rattle.rbac_paths.specs.Having.{HoldingView}
use Rattle.rbac_paths.specs.Nodes.{NodeView, Somebody, ClusterRoleIn, OwnRole, EverythingIn}
use Rattle.rbac_paths.specs.Taking.{RuleTakes}
use Rattle.rbac_paths.specs.TakingOver.{IsUntoldBy, TakesByStep, WritesRoles}
use Rattle.rbac_steps.specs.declared.steps.Step.{Step}
use Rattle.rbac_steps.specs.declared.steps.Step.TheVariants.{Bind}

-- if the node is a cluster role, this role is held
abbrev pub HasItsRole : Held → NodeView → Type 0
HasItsRole h (ClusterRoleIn role scope) = Contains h.cluster_roles role
HasItsRole h (Somebody who) = Unit {0}
HasItsRole h (OwnRole role) = Unit {0}
HasItsRole h (EverythingIn scope) = Unit {0}

-- the holdings of these rules, which count in `home`
abbrev pub holdings_at : Option Text → List Rule → List HoldingView
holdings_at home rules = map (λ rule. record { home = home; rule = rule }) rules

-- the holding that a grant gives to each principal that its binding names
abbrev pub grant_holding : GrantView → HoldingView
grant_holding g = record { home = g.binding.namespace; rule = g.rule.rule }

-- new has exactly what old has, and the holdings that the grants `start..end` give
abbrev pub AddsGiven : PolicyView → ℕ → ℕ → List HoldingView → List HoldingView → Type 0
AddsGiven p start end old new = (h : HoldingView) → Contains new h
    ↔ (Contains old h ⊎ ((number : ℕ) × (g : GrantView) × (start ≤ number) × (number < end)
    × (slice_get p.grants number ≡ Some g) × (grant_holding g ≡ h)))

-- the cluster roles whose written rules the cluster role has: itself if it is plain, otherwise the
-- roles that it gathers from
abbrev pub AreSourceRoles : Held → ClusterRole → List ClusterRole → Type 0
AreSourceRoles h r ss = (IsPlain r × (ss ≡ r ∷ [])) ⊎ ((¬ IsPlain r) × AreGathered h r ss)

-- r reaches the cluster role at that place, which is plain
abbrev pub IsSourceAt : Held → ClusterRole → ℕ → Type 0
IsSourceAt h r k = IsReachedAt h r k × IsPlainAt h.cluster_roles k

-- the holding takes over the node by the step: it allows a request of the step that does
unfoldable pub HoldingTakes : Step → HoldingView → NodeView → Type 0
HoldingTakes step h y = RuleTakes step h.home h.rule y

-- one of these holdings takes over the node by the step
unfoldable pub HoldingsTake : Step → List HoldingView → NodeView → Type 0
HoldingsTake step hs y = Any (λ h. HoldingTakes step h y) hs

-- these holdings take over everything in the scope by `bind` or `escalate`, if these are among the
-- steps
unfoldable pub HoldingsHaveAll : List Step → List HoldingView → Option Text → Type 0
HoldingsHaveAll steps hs scope =
    Any (λ s. WritesRoles s × HoldingsTake s hs (EverythingIn scope)) steps

-- these holdings take over the node by `bind`, if that is among the steps
unfoldable pub HoldingsBind : List Step → List HoldingView → NodeView → Type 0
HoldingsBind steps hs y = Any (λ s. (s ≡ Bind) × HoldingsTake s hs y) steps

-- for a node with these holdings, `bind` and `escalate` leave out y
abbrev pub IsUntoldOf : List Step → List HoldingView → NodeView → Type 0
IsUntoldOf steps hs y = IsUntoldBy (HoldingsHaveAll steps hs) (HoldingsBind steps hs) y

-- these holdings take over the node by the step, and the step doesn't leave it out
abbrev pub HoldingsTell : List Step → List HoldingView → NodeView → Step → Type 0
HoldingsTell steps hs y step = HoldingsTake step hs y × (WritesRoles step → ¬ IsUntoldOf steps hs y)

-- the step is the first of these by which x takes over y
abbrev pub IsFirstTold : PolicyView → List Step → NodeView → NodeView → Step → Type 0
IsFirstTold p steps x y step = (n : ℕ)
    × IsFirstAt (λ s. TakesByStep p steps x s y) steps n step
