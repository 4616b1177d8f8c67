use Rattle.std.proofs.Common.{rules}
use Rattle.rbac_token.proofs.token.encoded.Goals as goal

pub returns : goal.returns
returns c = search rules
