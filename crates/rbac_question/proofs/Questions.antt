-- a question that is refused is not accepted
use Rattle.std.proofs.Common.{◌≡◌, ◌≢◌, refl, subst}
use Rattle.rbac_question.specs.Lines.{QuestionParts, AcceptsQuestion, RefusesQuestion}
use Rattle.rbac_question.specs.WhoCanLines.{WhoCanParts}
use Rattle.rbac_question.specs.declared.fault.QuestionFault.{QuestionFault}
use Rattle.rbac_question.specs.declared.fault.QuestionFault.TheVariants.{EmptyWord, UrlSubresource, BadToken, BadPrincipal, BadCode, BadChange, BadStep, BadIndirect, BadEnd, BadLogs, BadRoleName, NoMemory}

not_accepted : (l : QuestionParts) (e : QuestionFault) → RefusesQuestion l e → e ≢ NoMemory → AcceptsQuestion l → ⊥
not_accepted l EmptyWord refused allocates accepted = accepted.0 refused
not_accepted l UrlSubresource refused allocates accepted = accepted.1 refused.1
not_accepted l BadToken refused allocates accepted = refused
not_accepted l BadPrincipal refused allocates accepted = refused
not_accepted l BadCode refused allocates accepted = refused
not_accepted l BadChange refused allocates accepted = refused
not_accepted l BadStep refused allocates accepted = refused
not_accepted l BadIndirect refused allocates accepted = refused
not_accepted l BadEnd refused allocates accepted = refused
not_accepted l BadLogs refused allocates accepted = refused
not_accepted l BadRoleName refused allocates accepted = refused
not_accepted l NoMemory refused allocates accepted = allocates refl

pub question_refused : (l m : WhoCanParts) (e : QuestionFault) → l ≡ m → RefusesQuestion l.question e → e ≢ NoMemory → AcceptsQuestion m.question → ⊥
question_refused l m e same refused = not_accepted m.question e (subst (λ (l : WhoCanParts). RefusesQuestion l.question e) same refused)
