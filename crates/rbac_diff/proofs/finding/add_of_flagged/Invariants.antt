use Rattle.rbac_diff.specs.Finding.{FindsGained}
use Rattle.rbac_diff.proofs.finding.add_of_flagged.Given as goal

abbrev pub invariant-loop-place : goal.invariant-loop-place
invariant-loop-place l = FindsGained l.kind l.asked l.after l.place l.initial.findings l.findings
