use Rattle.std.proofs.Common.{rules}
use Rattle.rbac_question.proofs.line.can_i_from.Goals as goal

pub returns : goal.returns
returns c = search rules
