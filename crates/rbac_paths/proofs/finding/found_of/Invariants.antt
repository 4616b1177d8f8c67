use Rattle.rbac_paths.specs.Finding.{FindsPowers}
use Rattle.rbac_paths.proofs.finding.found_of.Given as goal

abbrev pub invariant-loop-place : goal.invariant-loop-place
invariant-loop-place l = FindsPowers l.policy l.step l.place l.found
