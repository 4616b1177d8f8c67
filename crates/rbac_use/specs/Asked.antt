-- The requests that a binding allows, and what they use.
use Rattle.std.specs.Prelude.{◌≡◌, ◌↔◌, ℕ, List, Option, Some, Any, Contains, slice_get}
use Rattle.rbac_terms.specs.Text.{Text}
use Rattle.rbac_terms.specs.Principals.{Who}
use Rattle.rbac_terms.specs.Granting.{Names}
use Rattle.rbac_terms.specs.Matching.{RuleAllows}
use Rattle.rbac_terms.specs.declared.granting.Binding.{Binding}
use Rattle.rbac_terms.specs.declared.granting.Subject.{Subject}
use Rattle.rbac_terms.specs.declared.matching.Rule.{Rule}
use Rattle.rbac_model.specs.Policies.{BindingNames, PolicyView}
use Rattle.rbac_use.specs.Adding.{line_at}
use Rattle.rbac_use.specs.Requests.{request_of}
use Rattle.rbac_use.specs.Used.{IsAllowedAt, NamesSomebody}
use Rattle.rbac_use.specs.declared.request.Request.{Request}
use Rattle.rbac_use.specs.declared.unused.Part.TheVariants.{Subject as ForSubject}
use Rattle.rbac_use.specs.declared.unused.Unused.{Unused}

-- the binding at that place names the principal
abbrev pub IsNamedAt : PolicyView → ℕ → Who → Type 0
IsNamedAt p place who = (b : Binding) → slice_get p.held.bindings place ≡ Some b
    → BindingNames b who

-- exactly those of the requests that the binding at that place allows
abbrev pub AreAskedAt : PolicyView → ℕ → List Request → List Request → Type 0
AreAskedAt p place requests asked = (q : Request) → Contains asked q
    ↔ (Contains requests q × IsAllowedAt p place (request_of q))

-- the rule allows what one of the requests asks for
abbrev pub IsAskedBy : List Request → Rule → Type 0
IsAskedBy asked rule = Any (λ q. RuleAllows rule q.verb.now q.target.now) asked

-- the subject of a binding in that namespace, or in none, names who makes one of the requests
abbrev pub HasAskedBy : List Request → Option Text → Subject → Type 0
HasAskedBy asked namespace s = Any (λ q. Names s namespace q.who.now) asked

-- the subject names somebody, but nobody who makes one of the requests
abbrev pub IsIdleSubject : List Request → Option Text → Subject → Type 0
IsIdleSubject asked namespace s = NamesSomebody namespace s × ¬ HasAskedBy asked namespace s

-- the line of the subject at that place of the binding, which is such a one
abbrev pub IsSubjectLine : ℕ → List Request → Binding → ℕ → Unused → Type 0
IsSubjectLine place asked b i x = (s : Subject) × (slice_get b.subjects i ≡ Some s)
    × (x ≡ line_at place (ForSubject i)) × IsIdleSubject asked b.namespace s
