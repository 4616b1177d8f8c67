use Rattle.std.proofs.Common.{arith}
use Rattle.json_list.proofs.one_pass.Unread.rest.Goals as goal

pub returns-clause-rest : goal.returns-clause-rest
returns-clause-rest c = rw c.self.view_is at (rw c.if-not-branch.false at c.in_ok-read_rest.ensures.rest)

pub returns-then-not-branch-clause-rest : goal.returns-then-not-branch-clause-rest
returns-then-not-branch-clause-rest c = rw c.self.view_is at (rw c.if-not-branch.true at c.in_ok-read_rest.ensures.rest)

pub returns-in_err-read_rest-clause-refused : goal.returns-in_err-read_rest-clause-refused
returns-in_err-read_rest-clause-refused c refusal = rw c.self.view_is at (c.in_err-read_rest.ensures.refused (grind arith))
