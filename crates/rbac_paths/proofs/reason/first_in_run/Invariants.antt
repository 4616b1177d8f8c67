use Rattle.rbac_paths.specs.Aims.{aim_of}
use Rattle.rbac_paths.specs.Reasons.{NoneServesIn}
use Rattle.rbac_paths.proofs.reason.first_in_run.Given as goal

abbrev pub invariant-loop-no : goal.invariant-loop-no
invariant-loop-no l = NoneServesIn l.policy (aim_of l.aim) l.start l.no
