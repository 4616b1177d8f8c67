use Rattle.rbac_subjects.proofs.KeyingLemmas.{HasKeysBelow}
use Rattle.rbac_subjects.proofs.subject_keys.push_keys.Given as goal

abbrev pub invariant-loop-subject : goal.invariant-loop-subject
invariant-loop-subject l = HasKeysBelow l.fn.entries.items l.entries.items l.binding l.place l.subject-index
