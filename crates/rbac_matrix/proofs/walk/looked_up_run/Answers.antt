use Rattle.std.proofs.Common.{refl}
use Rattle.rbac_matrix.specs.Cursors.{IsBoundOn}
use Rattle.rbac_matrix.proofs.walk.looked_up_run.Goals as goal

pub returns-in_err-start : goal.returns-in_err-start
unfolding IsBoundOn
returns-in_err-start c = record { found = rw (c.from_residual.ensures, ← c.subjects-subjects.ensures) c.in_err-start.ensures; same = (refl, refl) }

pub returns : goal.returns
returns c = record { found = rw (← c.subjects-subjects.ensures) c.in_ok-start.ensures; same = (refl, refl) }
