use Rattle.rbac_question.proofs.Questions.{question_refused}
use Rattle.rbac_question.proofs.who_can_line.check_who_can.Goals as goal

pub returns-in_err-check_question-clause-unknown : goal.returns-in_err-check_question-clause-unknown
returns-in_err-check_question-clause-unknown c =
    let refused = c.in_err-check_question in
    λ h. absurd (question_refused _ c.args.line.now refused.field-0.0 c.line.view_is refused.ensures.answer refused.ensures.unallocated h.0)

pub returns-in_err-check_question-clause-mixed : goal.returns-in_err-check_question-clause-mixed
returns-in_err-check_question-clause-mixed c =
    let refused = c.in_err-check_question in
    λ h. absurd (question_refused _ c.args.line.now refused.field-0.0 c.line.view_is refused.ensures.answer refused.ensures.unallocated h.0)
