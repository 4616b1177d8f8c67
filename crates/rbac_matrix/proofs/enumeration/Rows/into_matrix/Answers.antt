use Rattle.rbac_matrix.proofs.enumeration.Rows.into_matrix.Goals as goal

pub build-requires-clause-seats : goal.build-requires-clause-seats
build-requires-clause-seats c = c.requires.ready.count
