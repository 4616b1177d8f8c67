use Rattle.rbac_diff.proofs.Telling.{tells_each, tells_nothing}
use Rattle.rbac_diff.proofs.laws.changes_tell_all.Goals as goal

pub returns-clause-nothing : goal.returns-clause-nothing
returns-clause-nothing c = tells_nothing

pub returns-clause-each : goal.returns-clause-each
returns-clause-each c = tells_each
