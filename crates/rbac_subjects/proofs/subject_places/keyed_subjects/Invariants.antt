use Rattle.rbac_subjects.proofs.NamingLemmas.{AreKeyedTo}
use Rattle.rbac_subjects.proofs.subject_places.keyed_subjects.Given as goal

abbrev pub invariant-loop-place : goal.invariant-loop-place
invariant-loop-place l = AreKeyedTo l.binding l.place l.entries.items
