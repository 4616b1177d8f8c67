use Rattle.std.proofs.Common.{rules}
use Rattle.rbac_diff.proofs.covering.is_covered.Goals as goal

pub returns : goal.returns
returns c = search rules
