use Rattle.std.proofs.Common.{rules}
use Rattle.rbac_matrix.proofs.row.is_repeat_in.Goals as goal

pub returns-then-not-is_empty : goal.returns-then-not-is_empty
returns-then-not-is_empty c = search rules
