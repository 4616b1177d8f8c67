use Rattle.std.proofs.Common.{rules}
use Rattle.rbac_token.proofs.token.check_spelling.Goals as goal

pub returns : goal.returns
returns c = search rules
