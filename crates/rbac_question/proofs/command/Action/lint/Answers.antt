use Rattle.std.proofs.Common.{rules}
use Rattle.rbac_question.proofs.command.Action.lint.Goals as goal

pub returns-clause-answer : goal.returns-clause-answer
returns-clause-answer c = search rules
