-- The first grant of a binding that lacks only a member.
use Rattle.std.proofs.Common.{◌≡◌, ◌≤◌, ◌<◌, ◌↔◌, ◌∙◌, ℕ, Some, ap, refl, sym, subst, length, slice_get}
use Rattle.std.proofs.lemmas.Option.{same_Some}
use Rattle.rbac_terms.specs.Matching.{RuleAllows}
use Rattle.rbac_terms.specs.declared.granting.Binding.{Binding}
use Rattle.rbac_model.specs.Policies.{BindingNames, GrantView, IsOfBinding, Live, PolicyView}
use Rattle.rbac_near.specs.Members.{IsFirstLacking, LackNoMember}
use Rattle.rbac_near.specs.Near.{Lacks, RequestView}
use Rattle.rbac_near.specs.declared.near.Missing.TheVariants.{Member}

-- no rule of the grants from one number up to another allows the request
abbrev pub AllowsNone : PolicyView → RequestView → ℕ → ℕ → Type 0
AllowsNone p q from end = (k : ℕ) (g : GrantView) → from ≤ k → k < end → slice_get p.grants k ≡ Some g → ¬ RuleAllows g.rule.rule q.verb q.target

-- the binding of a grant is the binding at the grant's place
pub own_binding : (p : PolicyView) (n place : ℕ) (g : GrantView) (b : Binding) → slice_get p.grants n ≡ Some g → IsOfBinding p n place → slice_get p.held.bindings place ≡ Some b → g.binding ≡ b
own_binding p n place g b here of there =
    ap (λ (x : GrantView). x.binding) (same_Some g of.0 (sym here ∙ of.1)) ∙ same_Some of.0.binding b (sym of.2 ∙ there)

module _ (p : PolicyView) (q : RequestView) (place : ℕ) (b : Binding) (there : slice_get p.held.bindings place ≡ Some b) where
  -- the binding doesn't count there, or names who asks
  pub none_for_others : ¬ (Live b.namespace q.namespace q.target × (¬ BindingNames b q.who)) → LackNoMember p q place
  none_for_others not n g (here, of) lacks =
      not (subst (λ (v : Binding). Live v.namespace q.namespace q.target × (¬ BindingNames v q.who)) (own_binding p n place g b here of there) (lacks.0, lacks.1))

  module _ (from end : ℕ) (between : (n at : ℕ) → IsOfBinding p n at → ((from ≤ n) × (n < end)) ↔ (at ≡ place)) where
    -- no rule of the binding allows the request
    pub none_allowing : AllowsNone p q from end → LackNoMember p q place
    none_allowing none n g (here, of) lacks = let within = (between n place of).1 refl in none n g within.0 within.1 here lacks.2

    pub first_lacking : (n : ℕ) (g : GrantView) → AllowsNone p q from n → n < length p.grants → IsOfBinding p n place → slice_get p.grants n ≡ Some g
        → Live b.namespace q.namespace q.target × (¬ BindingNames b q.who) → RuleAllows g.rule.rule q.verb q.target → IsFirstLacking p q place n
    first_lacking n g none number of here others allows = record {
      number = number;
      of_binding = of;
      lacks = λ x at.
          (let own = own_binding p n place x b at of there in
          let is : g ≡ x = same_Some g x (sym here ∙ at) in
          let mine = subst (λ (v : Binding). Live v.namespace q.namespace q.target × (¬ BindingNames v q.who)) (sym own) others in
          let lacking : Lacks q Member x = (mine.0, mine.1, subst (λ (v : GrantView). RuleAllows v.rule.rule q.verb q.target) is allows) in
          lacking);
      first = λ k x less (at, also) lacks. none k x ((between k place also).1 refl).0 less at lacks.2;
    }
