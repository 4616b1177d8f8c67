-- The rules that somebody has: what `rules` lists.
use Rattle.std.specs.Prelude.{◌≡◌, ℕ, ◌⊎◌, ◌↔◌, List, [], ◌∷◌, Any}
use Rattle.rbac_terms.specs.Text.{Text}
use Rattle.rbac_terms.specs.Targets.{What}
use Rattle.rbac_terms.specs.Principals.{Who}
use Rattle.rbac_terms.specs.Granting.{Names}
use Rattle.rbac_terms.specs.Matching.{RuleAllows}
use Rattle.rbac_terms.specs.declared.granting.Subject.{Subject}
use Rattle.rbac_terms.specs.declared.scope.Scope.{Scope}
use Rattle.rbac_model.specs.Lists.{IsFirstAt}
use Rattle.rbac_model.specs.Policies.{PolicyView, GrantView, BindingNames, Live, Allows, IsWhy}
use Rattle.rbac_model.specs.Scopes.{MayBeLiveIn}

-- somebody has the rule of a grant: the grant's binding may be live in the scope, and names them
-- (Using RBAC Authorization)
abbrev pub Has : Who → Scope → GrantView → Type 0
Has who scope g = MayBeLiveIn scope g.binding.namespace × BindingNames g.binding who

-- a rule that somebody has: the grant that brings it, and the place of a subject of the grant's
-- binding
pub record RuleView : Type 0 where
  pub grant : GrantView
  pub subject_place : ℕ

-- the subject of the rule is the first that names who has it (own)
abbrev pub IsByFirstSubject : Who → RuleView → Type 0
IsByFirstSubject who x = (s : Subject)
    × IsFirstAt
    (λ s. Names s x.grant.binding.namespace who) x.grant.binding.subjects x.subject_place s

-- the rules that somebody has by grants: one for each grant whose rule they have, in the order of
-- the grants (own)
abbrev pub AreRulesBy : Who → Scope → List GrantView → List RuleView → Type 0
AreRulesBy who scope [] xs = xs ≡ []
AreRulesBy who scope (g ∷ gs) xs =
    ((¬ Has who scope g) × AreRulesBy who scope gs xs)
    ⊎ (Has who scope g
    × ((x : RuleView) × (rest : List RuleView) × (x.grant ≡ g) × IsByFirstSubject who x
    × AreRulesBy who scope gs rest × (xs ≡ x ∷ rest)))

-- the effective rules of somebody in a scope: those by the policy's grants
abbrev pub AreEffective : PolicyView → Who → Scope → List RuleView → Type 0
AreEffective p who scope xs = AreRulesBy who scope p.grants xs

-- a rule that somebody has allows the verb on the target in that namespace: its binding is live
-- there, and the rule allows it
abbrev pub AllowsThere : Text → Text → What → RuleView → Type 0
AllowsThere namespace verb t x = Live x.grant.binding.namespace namespace t
    × RuleAllows x.grant.rule.rule verb t

-- the rules decide what somebody may do in that namespace: exactly what one of the rules allows
-- there
abbrev pub Decide : PolicyView → Who → Text → List RuleView → Type 0
Decide p who namespace xs = (verb : Text) (t : What)
    → Allows p.held who namespace verb t ↔ Any (AllowsThere namespace verb t) xs

-- the rules explain why somebody may do something in that namespace: the reason is the first of the
-- rules that allows it there, with its subject
abbrev pub Explain : PolicyView → Who → Text → List RuleView → Type 0
Explain p who namespace xs = (verb : Text) (t : What) (i : ℕ) (x : RuleView)
    → IsFirstAt (AllowsThere namespace verb t) xs i x
    → IsWhy p who namespace verb t x.grant x.subject_place
