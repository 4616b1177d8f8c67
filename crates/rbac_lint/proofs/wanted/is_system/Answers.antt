use Rattle.std.proofs.Common.{inl, inr, sym, ◌∙◌, subst}
use Rattle.rbac_terms.specs.Text.{Text}
use Rattle.rbac_lint.specs.Wanted.{IsSystem, IsUserFacing}
use Rattle.rbac_lint.proofs.wanted.is_system.Goals as goal

pub returns-then-has_system_prefix : goal.returns-then-has_system_prefix
unfolding IsSystem
returns-then-has_system_prefix c = λ o kind name. (
  λ t. (let b = c.has_system_prefix.ensures.0 t in inl (b.0, name ∙ b.1)),
  λ s. c.if-has_system_prefix.true,
)

pub returns-else-has_system_prefix : goal.returns-else-has_system_prefix
unfolding IsSystem
returns-else-has_system_prefix c = λ o kind name. (
  λ t. (let p = c.is_user_facing_role.ensures.0 t in inr (kind ∙ p.0, subst (λ (n : Text). IsUserFacing n) (sym name) p.1)),
  λ s. elim s [
    | inl b ↦ absurd (let begins = c.has_system_prefix.ensures.1 (b.0, sym name ∙ b.1) in let never = c.if-has_system_prefix.false in cc)
    | inr p ↦ c.is_user_facing_role.ensures.1 (sym kind ∙ p.0, subst (λ (n : Text). IsUserFacing n) name p.1)
  ],
)
