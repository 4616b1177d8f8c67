use Rattle.std.proofs.Common.{true}
use Rattle.rbac_question.proofs.Ends.{no_role_in, role_in}
use Rattle.rbac_question.proofs.path_end.is_role_in.Goals as goal

pub returns-in-Some : goal.returns-in-Some
returns-in-Some c = role_in c.args.text.now c.args.given.now c.in-Some.own.now c.is_none_or.result c.in-Some.ensures c.is_none_or.ensures

pub returns-in-None : goal.returns-in-None
returns-in-None c = (λ no. cc, λ inn. absurd (no_role_in c.args.text.now c.args.given.now c.in-None.ensures inn))
