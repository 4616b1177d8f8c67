use Rattle.std.proofs.Common.{take}
use Rattle.rbac_model.specs.Sources.{grant_of}
use Rattle.rbac_paths.specs.Finding.{AddsPowers}
use Rattle.rbac_paths.proofs.finding.add_of_grant.Given as goal

abbrev pub invariant-loop-place : goal.invariant-loop-place
invariant-loop-place l = AddsPowers l.step (grant_of l.grant) (take l.place l.subject-items) l.initial.found l.found
