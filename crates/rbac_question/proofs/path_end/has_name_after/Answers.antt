use Rattle.rbac_question.proofs.Ends.{has_name}
use Rattle.rbac_question.proofs.path_end.has_name_after.Goals as goal

pub returns : goal.returns
returns c = has_name c.args.front.now c.args.text.now c.name_behind.result c.is_some.result c.is_some.ensures c.name_behind.ensures
