use Rattle.std.proofs.Common.{rules}
use Rattle.rbac_model.proofs.live.is_live_at.Goals as goal

pub returns-then-not-is_empty : goal.returns-then-not-is_empty
returns-then-not-is_empty c = search rules

pub returns-else-not-is_empty : goal.returns-else-not-is_empty
returns-else-not-is_empty c = search rules
