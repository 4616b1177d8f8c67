use Rattle.rbac_use.proofs.Needed.{isnt_needed}
use Rattle.rbac_use.proofs.laws.what_is_unused_isnt_needed.Goals as goal

pub returns : goal.returns
returns c = isnt_needed
