-- The rules that apply to everyone whom a principal stands for.
use Rattle.std.specs.Prelude.{◌≡◌, ◌↔◌, ◌⊎◌, ℕ, ◌≤◌, ◌<◌, List, [], ◌∷◌, Option, Some, None}
use Rattle.std.specs.Prelude.{Any}
use Rattle.std.specs.Prelude.{slice_get, length}
use Rattle.std.proofs.Common.{Bor}
use Rattle.rbac_terms.specs.Text.{Text}
use Rattle.rbac_terms.specs.Principals.{Who}
use Rattle.rbac_terms.specs.declared.matching.Rule.{Rule}
use Rattle.rbac_model.specs.Policies.{PolicyView, GrantView, BindingNames}
use Rattle.rbac_covering.specs.Covering.{CoversAll}
use Rattle.rbac_subjects.specs.Bound.{IsBoundTo}
use Rattle.rbac_diff.specs.Covering.{stand_ins}

-- some reference is to the rule
abbrev pub HasRule : List (Bor Rule) → Rule → Type 0
HasRule rules r = Any (λ held. held.now ≡ r) rules

-- some reference is to a rule that covers the rule
abbrev pub HasCoveringRule : List (Bor Rule) → Rule → Type 0
HasCoveringRule rules r = Any (λ held. CoversAll held.now r) rules

-- a place among the rules, one of which covers the rule
abbrev pub IsCoveringPlace : List (Bor Rule) → Rule → ℕ → Type 0
IsCoveringPlace rules r at = (at < length rules) × HasCoveringRule rules r

-- the rule of a grant, one of the first `count`, that is bound to the principal in that namespace
abbrev pub IsBoundRule : PolicyView → Who → Text → ℕ → Rule → Type 0
IsBoundRule policy who namespace count r = (no : ℕ) × (g : GrantView) × (no < count)
    × (slice_get policy.grants no ≡ Some g) × IsBoundTo policy who namespace no × (g.rule.rule ≡ r)

-- new has old's rules and these
abbrev pub AddsRules : PolicyView → Who → Text → ℕ → List (Bor Rule) → List (Bor Rule) → Type 0
AddsRules policy who namespace count old new = (r : Rule) → HasRule new r
    ↔ (HasRule old r ⊎ IsBoundRule policy who namespace count r)

-- the rule is that of a grant numbered from `start` up to `end`
abbrev pub IsRuleIn : PolicyView → ℕ → ℕ → Rule → Type 0
IsRuleIn policy start end r = (no : ℕ) × (g : GrantView) × (start ≤ no) × (no < end)
    × (slice_get policy.grants no ≡ Some g) × (g.rule.rule ≡ r)

-- new has old's rules and these
abbrev pub AddsRulesIn : PolicyView → ℕ → ℕ → List (Bor Rule) → List (Bor Rule) → Type 0
AddsRulesIn policy start end old new = (r : Rule) → HasRule new r
    ↔ (HasRule old r ⊎ IsRuleIn policy start end r)

-- the first, and the second if it is given
abbrev pub one_or_two : {X : Type 0} → X → Option X → List X
one_or_two first None = first ∷ []
one_or_two first (Some second) = first ∷ second ∷ []

-- a binding in the first namespace, or in none, is live wherever one in the second is
abbrev pub IsWider : Option Text → Option Text → Type 0
IsWider own asked = (own ≡ None) ⊎ (own ≡ asked)

-- the rules of the grants whose bindings name everyone whom the principal stands for, and are live
-- wherever a binding in that namespace, or in none, is
abbrev pub AreStandInRules : PolicyView → Who → Option Text → List (Bor Rule) → Type 0
AreStandInRules policy who namespace rules = (r : Rule) → HasRule rules r
    ↔ Any (λ g. IsWider g.binding.namespace namespace
    × Any (BindingNames g.binding) (stand_ins who) × (g.rule.rule ≡ r)) policy.grants
