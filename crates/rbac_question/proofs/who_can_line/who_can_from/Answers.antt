use Rattle.std.proofs.Common.{rules}
use Rattle.rbac_question.proofs.who_can_line.who_can_from.Goals as goal

pub returns : goal.returns
returns c = search rules
