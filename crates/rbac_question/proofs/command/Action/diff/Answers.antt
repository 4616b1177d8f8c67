use Rattle.std.proofs.Common.{rules}
use Rattle.rbac_question.proofs.command.Action.diff.Goals as goal

pub returns : goal.returns
returns c = search rules
