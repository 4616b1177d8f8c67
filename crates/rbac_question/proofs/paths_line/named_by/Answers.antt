use Rattle.rbac_question.proofs.Ends.{named_or_memory}
use Rattle.rbac_question.proofs.paths_line.named_by.Goals as goal

pub returns : goal.returns
returns c = named_or_memory c.args.who.now c.principal_of.result c.principal_of.ensures.answer c.requires
