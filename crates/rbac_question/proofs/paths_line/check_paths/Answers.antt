use Rattle.std.proofs.Common.{◌≡◌, ◌∙◌, false, subst, sym, true}
use Rattle.rbac_question.specs.Lines.{HasBadPrincipal}
use Rattle.rbac_question.specs.PathEnds.{IsGoodEnd}
use Rattle.rbac_question.specs.PathsLines.{PathsParts}
use Rattle.rbac_question.specs.StepsLines.{AreStepWords}
use Rattle.rbac_question.proofs.paths_line.check_paths.Goals as goal

pub returns-then-not-names_steps-clause-answer : goal.returns-then-not-names_steps-clause-answer
returns-then-not-names_steps-clause-answer c = (
  subst (λ (l : PathsParts). HasBadPrincipal l.who → ⊥) c.line.view_is c.in_ok-check_who.ensures.answer,
  subst (λ (l : PathsParts). AreStepWords l.steps → ⊥) c.line.view_is
      (λ all. (let no : true ≡ false = sym (c.names_steps.ensures.1 all) ∙ c.if-not-names_steps.true in cc)),
)

pub returns-then-not-names_steps-clause-unnamed : goal.returns-then-not-names_steps-clause-unnamed
returns-then-not-names_steps-clause-unnamed c = λ h. absurd (subst (λ (l : PathsParts). HasBadPrincipal l.who → ⊥) c.line.view_is c.in_ok-check_who.ensures.answer h)

pub returns-then-not-names_steps-clause-ending : goal.returns-then-not-names_steps-clause-ending
returns-then-not-names_steps-clause-ending c = λ h.
    let all = subst (λ (l : PathsParts). AreStepWords l.steps) (sym c.line.view_is) h.1 in
    let no : true ≡ false = sym (c.names_steps.ensures.1 all) ∙ c.if-not-names_steps.true in
    cc

pub returns-then-not-is_good_end-clause-answer : goal.returns-then-not-is_good_end-clause-answer
returns-then-not-is_good_end-clause-answer c = (
  subst (λ (l : PathsParts). HasBadPrincipal l.who → ⊥) c.line.view_is c.in_ok-check_who.ensures.answer,
  subst (λ (l : PathsParts). AreStepWords l.steps) c.line.view_is (c.names_steps.ensures.0 c.if-not-names_steps.false),
  subst (λ (l : PathsParts). IsGoodEnd l.to l.namespace → ⊥) c.line.view_is
      (λ good. (let no : true ≡ false = sym (c.is_good_end.ensures.1 good) ∙ c.if-not-is_good_end.true in cc)),
)

pub returns-then-not-is_good_end-clause-unnamed : goal.returns-then-not-is_good_end-clause-unnamed
returns-then-not-is_good_end-clause-unnamed c = λ h. absurd (subst (λ (l : PathsParts). HasBadPrincipal l.who → ⊥) c.line.view_is c.in_ok-check_who.ensures.answer h)

pub returns-then-not-is_good_end-clause-unknown : goal.returns-then-not-is_good_end-clause-unknown
returns-then-not-is_good_end-clause-unknown c = λ h.
    absurd (h.1 (subst (λ (l : PathsParts). AreStepWords l.steps) c.line.view_is (c.names_steps.ensures.0 c.if-not-names_steps.false)))

pub returns-clause-answer : goal.returns-clause-answer
returns-clause-answer c = (
  subst (λ (l : PathsParts). HasBadPrincipal l.who → ⊥) c.line.view_is c.in_ok-check_who.ensures.answer,
  subst (λ (l : PathsParts). AreStepWords l.steps) c.line.view_is (c.names_steps.ensures.0 c.if-not-names_steps.false),
  subst (λ (l : PathsParts). IsGoodEnd l.to l.namespace) c.line.view_is (c.is_good_end.ensures.0 c.if-not-is_good_end.false),
)

pub returns-clause-unnamed : goal.returns-clause-unnamed
returns-clause-unnamed c = λ h. absurd (subst (λ (l : PathsParts). HasBadPrincipal l.who → ⊥) c.line.view_is c.in_ok-check_who.ensures.answer h)

pub returns-clause-unknown : goal.returns-clause-unknown
returns-clause-unknown c = λ h.
    absurd (h.1 (subst (λ (l : PathsParts). AreStepWords l.steps) c.line.view_is (c.names_steps.ensures.0 c.if-not-names_steps.false)))

pub returns-clause-ending : goal.returns-clause-ending
returns-clause-ending c = λ h.
    absurd (h.2 (subst (λ (l : PathsParts). IsGoodEnd l.to l.namespace) c.line.view_is (c.is_good_end.ensures.0 c.if-not-is_good_end.false)))
