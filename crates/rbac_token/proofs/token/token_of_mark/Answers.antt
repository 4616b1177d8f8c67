use Rattle.std.proofs.Common.{rules}
use Rattle.rbac_token.proofs.token.token_of_mark.Goals as goal

pub returns-clause-ok : goal.returns-clause-ok
returns-clause-ok c = search rules
