use Rattle.rbac_subjects.proofs.subject_index.SubjectIndex.build.Goals as goal

pub invariant_of-result : goal.invariant_of-result
invariant_of-result c = c.in_ok-named.ensures
