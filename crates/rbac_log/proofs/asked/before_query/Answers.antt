use Rattle.std.proofs.Common.{sym}
use Rattle.rbac_log.proofs.Cuts.{before_cut, before_uncut}
use Rattle.rbac_log.proofs.asked.before_query.Goals as goal

pub returns-in-Some : goal.returns-in-Some
returns-in-Some c = sym (before_cut _ _ _ _ c.in-Some.ensures)

pub returns-in-None : goal.returns-in-None
returns-in-None c = sym (before_uncut _ _ c.in-None.ensures)
