use Rattle.std.proofs.Common.{rules}
use Rattle.rbac_token.proofs.read.name_of.Goals as goal

pub returns : goal.returns
returns c = search rules
