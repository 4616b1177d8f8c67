-- Reasons: the grant or the rule by which a node takes over another node, or allows a request.
use Rattle.std.specs.Prelude.{◌≡◌, ℕ, ◌<◌, ◌≤◌, List, Option, Some, MatchOption, slice_get}
use Rattle.rbac_terms.specs.Text.{Text}
use Rattle.rbac_terms.specs.Granting.{Names}
use Rattle.rbac_terms.specs.Principals.{Who}
use Rattle.rbac_terms.specs.declared.granting.Subject.{Subject}
use Rattle.rbac_model.specs.Lists.{IsFirstAt}
use Rattle.rbac_model.specs.Policies.{AreRulesOf, GrantView, Held, PolicyView, Source}
use Rattle.rbac_model.specs.Policies.{InRole, InClusterRole, SourcedRule}
use Rattle.rbac_model.specs.Sources.{grant_of, source_of}
use Rattle.rbac_paths.specs.Aims.{AimView, GrantServes, Serves}
use Rattle.rbac_paths.specs.Nodes.{NodeView, Somebody, ClusterRoleIn, OwnRole, EverythingIn}
use Rattle.rbac_paths.specs.declared.reason.Reason.{Reason}
use Rattle.rbac_paths.specs.declared.reason.Reason.TheVariants as by

-- a reason (own): a grant, and the place of a subject in its binding; a rule, by the role where it
-- is written and its place there; or that everything in a scope allows each request there
pub data ReasonView : Type 0 where
  ByGrant : GrantView → ℕ → ReasonView
  ByRule : Source → ℕ → ReasonView
  ByAll : ReasonView

-- the reason whose parts these references point to
abbrev pub reason_view : Reason → ReasonView
reason_view (by.Grant grant subject) = ByGrant (grant_of grant) subject
reason_view (by.Rule source place) = ByRule (source_of source) place
reason_view by.All = ByAll

-- the first subject of the grant's binding that names the principal is at that place
abbrev pub IsNamedAt : GrantView → Who → ℕ → Type 0
IsNamedAt g who at = (s : Subject)
    × IsFirstAt (λ s. Names s g.binding.namespace who) g.binding.subjects at s

-- the rule at `place` in `source` is the first rule of the role that serves the aim if it counts in
-- `home`; an aggregated role has the rules that it gathers
abbrev pub IsFirstRule : Held → Source → Option Text → AimView → Source → ℕ → Type 0
IsFirstRule h role home aim source place = (rules : List SourcedRule) × AreRulesOf h role rules
    × ((n : ℕ) × (r : SourcedRule) × IsFirstAt (λ r. Serves aim home r.rule) rules n r
    × (r.source ≡ source) × (r.place ≡ place))

-- why x attains the aim (own): a user or a group, by the first grant that serves the aim for it; a
-- role, by its first rule that serves the aim where the role is bound
abbrev pub IsReason : PolicyView → NodeView → AimView → ReasonView → Type 0
IsReason p (Somebody who) aim (ByGrant g at) = IsNamedAt g who at
    × ((n : ℕ) × IsFirstAt (GrantServes aim who) p.grants n g)
IsReason p (ClusterRoleIn role scope) aim (ByRule source place) =
    IsFirstRule p.held (InClusterRole role) scope aim source place
IsReason p (OwnRole role) aim (ByRule source place) =
    IsFirstRule p.held (InRole role) (Some role.namespace) aim source place
IsReason p (EverythingIn scope) aim ByAll = Unit {0}
IsReason p _ aim _ = ⊥

-- no grant with a number below `count` serves the aim for the principal
abbrev pub NoneBefore : PolicyView → AimView → Who → ℕ → Type 0
NoneBefore p aim who count = (k : ℕ) (g : GrantView) → k < count → slice_get p.grants k ≡ Some g
    → ¬ GrantServes aim who g

-- the number of the first grant that serves the aim for the principal, if there is one
abbrev pub AnswersFirstServing : PolicyView → AimView → Who → Option ℕ → Type 0
AnswersFirstServing p aim who o = MatchOption o ((count : ℕ) → NoneBefore p aim who count)
    (λ n. (g : GrantView) × IsFirstAt (GrantServes aim who) p.grants n g)

-- no rule of the grants `start..end` serves the aim where the grant's binding is
abbrev pub NoneServesIn : PolicyView → AimView → ℕ → ℕ → Type 0
NoneServesIn p aim start end = (k : ℕ) (g : GrantView) → start ≤ k → k < end
    → slice_get p.grants k ≡ Some g → ¬ Serves aim g.binding.namespace g.rule.rule

-- the number of the first of these grants whose rule serves the aim, if there is one
abbrev pub AnswersFirstIn : PolicyView → AimView → ℕ → ℕ → Option ℕ → Type 0
AnswersFirstIn p aim start end o = MatchOption o (NoneServesIn p aim start end)
    (λ n. (g : GrantView) × (start ≤ n) × (n < end) × (slice_get p.grants n ≡ Some g)
    × Serves aim g.binding.namespace g.rule.rule × NoneServesIn p aim start n)
