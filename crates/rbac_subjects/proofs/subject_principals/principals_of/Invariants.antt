use Rattle.rbac_subjects.proofs.PrincipalLemmas.{AreFound}
use Rattle.rbac_subjects.proofs.subject_principals.principals_of.Given as goal

abbrev pub invariant-loop-place : goal.invariant-loop-place
invariant-loop-place l = AreFound l.entries l.policy.held.bindings l.marks.items l.place l.found.items
