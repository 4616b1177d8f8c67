use Rattle.std.specs.Prelude.{◌≡◌, ℕ, ◌<◌, ◌≤◌, slice_get, Some}
use Rattle.rbac_terms.specs.Text.{Text}
use Rattle.rbac_terms.specs.Targets.{What}
use Rattle.rbac_terms.specs.Principals.{Who}
use Rattle.rbac_terms.specs.Granting.{Names}
use Rattle.rbac_terms.specs.Matching.{RuleAllows}
use Rattle.rbac_terms.specs.declared.granting.Subject.{Subject}
use Rattle.rbac_model.specs.Lists.{IsFirstAt}
use Rattle.rbac_model.specs.Policies.{PolicyView, GrantView, IsOfBinding, BindingNames, IsWhy}
use Rattle.rbac_model.specs.Sources.{source_of}
use Rattle.rbac_index.specs.Indexed.{AllowsAt}
use Rattle.rbac_index.specs.Requested.{RequestedView}
use Rattle.rbac_model.specs.declared.why.Why.{Why}

-- the answer shows the grant's binding, the role where its rule is written, and the rule's place
-- there
abbrev pub ShowsGrant : Why → GrantView → Type 0
ShowsGrant why g = (why.binding.now ≡ g.binding) × (source_of why.source ≡ g.rule.source)
    × (why.rule_place ≡ g.rule.place)

-- the answer shows why the request is allowed
abbrev pub IsWhyShown : PolicyView → Who → Text → Text → What → Why → Type 0
IsWhyShown p who namespace verb t why = (g : GrantView)
    × IsWhy p who namespace verb t g why.subject_place × ShowsGrant why g

-- the grant with that number belongs to the binding at that place, and its rule allows the verb on
-- what is requested
abbrev pub AllowsOf : PolicyView → Text → RequestedView → ℕ → ℕ → Type 0
AllowsOf p verb t at n = IsOfBinding p n at × AllowsAt p verb t n

-- no grant of the binding at that place allows the verb on what is requested
abbrev pub NoneAllowing : PolicyView → Text → RequestedView → ℕ → Type 0
NoneAllowing p verb t at = (n : ℕ) → ¬ AllowsOf p verb t at n

-- the first grant of the binding at that place that allows the verb on what is requested
abbrev pub IsFirstAllowing : PolicyView → Text → RequestedView → ℕ → ℕ → Type 0
IsFirstAllowing p verb t at n = AllowsOf p verb t at n
    × ((m : ℕ) → m < n → ¬ AllowsOf p verb t at m)

-- the grant with that number belongs to the binding at that place, live or not, which names who
-- asks, and its rule allows the verb on the target
abbrev pub GrantsOf : PolicyView → Who → Text → What → ℕ → ℕ → Type 0
GrantsOf p who verb t at n =
    (g : GrantView) × (slice_get p.grants n ≡ Some g)
    × (slice_get p.held.bindings at ≡ Some g.binding) × BindingNames g.binding who
    × RuleAllows g.rule.rule verb t

-- no binding at these places names the principal and has a grant whose rule allows the verb on the
-- target
abbrev pub NoneAmong : PolicyView → Who → Text → What → ℕ → ℕ → Type 0
NoneAmong p who verb t from to = (at n : ℕ) → from ≤ at → at < to → ¬ GrantsOf p who verb t at n

-- the answer shows the first grant whose rule allows the verb on the target, among those of the
-- bindings at these places that name the principal
pub record IsFirstAmong (p : PolicyView) (who : Who) (verb : Text) (t : What) (from to : ℕ)
    (why : Why) : Type 0 where
  pub at : ℕ
  pub number : ℕ
  pub grant : GrantView
  pub within : (from ≤ at) × (at < to)
  pub granted : slice_get p.grants number ≡ Some grant
  pub grants : GrantsOf p who verb t at number
  pub none_before : (k n : ℕ) → n < number → from ≤ k → k < to → ¬ GrantsOf p who verb t k n
  pub shown : ShowsGrant why grant
  pub subject : (s : Subject)
      × IsFirstAt
      (λ s. Names s grant.binding.namespace who) grant.binding.subjects why.subject_place s
