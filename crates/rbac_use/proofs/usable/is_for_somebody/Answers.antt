use Rattle.std.proofs.Common.{◌∙◌, inl, inr, refl, subst, sym}
use Rattle.std.specs.Option.{option_copied}
use Rattle.rbac_terms.specs.declared.granting.Subject.{Subject}
use Rattle.rbac_use.specs.Used.{NamesSomebody}
use Rattle.rbac_use.proofs.CanMatch.{account_needs, account_some, others_somebody, some_copied}
use Rattle.rbac_use.proofs.usable.is_for_somebody.Goals as goal

pub returns-then-is_some : goal.returns-then-is_some
returns-then-is_some c =
    let namespace = option_copied c.args.namespace in (
      λ t. subst (λ (s : Subject). NamesSomebody namespace s) (sym c.in-Account.is)
          (account_some c.in-Account.own namespace c.in-Account.name (inl (sym c.is_some.ensures ∙ c.if-is_some.true))),
      λ w. c.if-is_some.true,
    )

pub returns-else-is_some : goal.returns-else-is_some
returns-else-is_some c =
    let namespace = option_copied c.args.namespace in
    let copied = some_copied c.args.namespace in (
      λ t. subst (λ (s : Subject). NamesSomebody namespace s) (sym c.in-Account.is)
          (account_some c.in-Account.own namespace c.in-Account.name (inr (copied ∙ sym c.is_some-else-is_some.ensures ∙ t))),
      λ w. c.is_some-else-is_some.ensures ∙ sym copied
          ∙ account_needs c.in-Account.own namespace c.in-Account.name (sym c.is_some.ensures ∙ c.if-is_some.false)
          (subst (λ (s : Subject). NamesSomebody namespace s) c.in-Account.is w),
    )

pub returns-in_default : goal.returns-in_default
returns-in_default c = (λ t. others_somebody c.args.subject.now (option_copied c.args.namespace) c.in_default.not-Account, λ w. refl)
