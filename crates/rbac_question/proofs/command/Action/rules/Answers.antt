use Rattle.std.proofs.Common.{sym, subst, rules}
use Rattle.rbac_question.specs.Lines.{HasBadPrincipal, RulesParts}
use Rattle.rbac_question.proofs.command.Action.rules.Goals as goal

pub returns-in_err-principal_of-clause-unnamed : goal.returns-in_err-principal_of-clause-unnamed
returns-in_err-principal_of-clause-unnamed c = λ h.
    let told = c.in_err-principal_of.ensures.unnamed (subst (λ (l : RulesParts). HasBadPrincipal l.who) (sym c.line.view_is) h) in
    search rules

pub returns-in_err-scope_from-clause-unnamed : goal.returns-in_err-scope_from-clause-unnamed
returns-in_err-scope_from-clause-unnamed c = λ h.
    absurd (subst (λ (l : RulesParts). HasBadPrincipal l.who) (sym c.line.view_is) h _ c.in_ok-principal_of.ensures.answer)

pub returns-clause-unnamed : goal.returns-clause-unnamed
returns-clause-unnamed c = λ h.
    absurd (subst (λ (l : RulesParts). HasBadPrincipal l.who) (sym c.line.view_is) h _ c.in_ok-principal_of.ensures.answer)
