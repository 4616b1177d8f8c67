-- What of a policy a log uses.
use Rattle.std.specs.Prelude.{◌≡◌, ℕ, List, Option, Some, Any, slice_get}
use Rattle.rbac_terms.specs.Text.{Text}
use Rattle.rbac_terms.specs.Targets.{IsProper}
use Rattle.rbac_terms.specs.Principals.{Who}
use Rattle.rbac_terms.specs.Granting.{Names}
use Rattle.rbac_terms.specs.Matching.{RuleAllows}
use Rattle.rbac_terms.specs.declared.granting.Binding.{Binding}
use Rattle.rbac_terms.specs.declared.granting.Subject.{Subject}
use Rattle.rbac_terms.specs.declared.matching.Rule.{Rule}
use Rattle.rbac_model.specs.Policies.{BindingNames, GrantView, Live, PolicyView}
use Rattle.rbac_diff.specs.Requests.{RequestView}

-- the binding counts where the request is made, and names who asks
abbrev pub CountsFor : Binding → RequestView → Type 0
CountsFor b r = Live b.namespace r.namespace r.target × BindingNames b r.who

-- a rule allows a request through a binding: the binding counts for the request, and the rule
-- allows what is asked for (Using RBAC Authorization)
abbrev pub AllowsThrough : Binding → Rule → RequestView → Type 0
AllowsThrough b rule r = CountsFor b r × RuleAllows rule r.verb r.target

-- some request can match the rule through the binding
abbrev pub CanBeUsed : Binding → Rule → Type 0
CanBeUsed b rule = (r : RequestView) × IsProper r.target × AllowsThrough b rule r

-- the rule, or permission, is used through the binding: it allows a logged request (own)
abbrev pub IsUsed : List RequestView → Binding → Rule → Type 0
IsUsed log b rule = Any (AllowsThrough b rule) log

-- the grant has that number, and is of the binding at that place
pub record IsGrantOf (p : PolicyView) (place n : ℕ) (g : GrantView) : Type 0 where
  pub grant : slice_get p.grants n ≡ Some g
  pub binding : slice_get p.held.bindings place ≡ Some g.binding

-- some grant of the binding at that place has the property
abbrev pub HasGrantWith : PolicyView → ℕ → (GrantView → Type 0) → Type 0
HasGrantWith p place P = (n : ℕ) × (g : GrantView) × IsGrantOf p place n g × P g

-- the binding at that place has permissions: some request can match one of its rules through it
abbrev pub HasPermissions : PolicyView → ℕ → Type 0
HasPermissions p place = HasGrantWith p place (λ g. CanBeUsed g.binding g.rule.rule)

-- the binding at that place allows a request by one of its rules
abbrev pub IsAllowedAt : PolicyView → ℕ → RequestView → Type 0
IsAllowedAt p place r = HasGrantWith p place (λ g. AllowsThrough g.binding g.rule.rule r)

-- some permission of the binding at that place is used: it allows a logged request
abbrev pub IsUsedAt : PolicyView → List RequestView → ℕ → Type 0
IsUsedAt p log place = Any (IsAllowedAt p place) log

-- some permission of the binding at that place is used by somebody whom the subject names
abbrev pub IsUsedBy : PolicyView → List RequestView → ℕ → Option Text → Subject → Type 0
IsUsedBy p log place namespace s =
    Any (λ r. Names s namespace r.who × IsAllowedAt p place r) log

-- the subject of a binding in that namespace, or in none, names somebody
abbrev pub NamesSomebody : Option Text → Subject → Type 0
NamesSomebody namespace s = (who : Who) × Names s namespace who
