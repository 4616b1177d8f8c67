use Rattle.std.proofs.Common.{rules}
use Rattle.rbac_use.proofs.permission.has_word.Goals as goal

pub returns : goal.returns
returns c = search rules
