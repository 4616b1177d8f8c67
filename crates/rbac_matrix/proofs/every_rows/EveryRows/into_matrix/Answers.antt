use Rattle.rbac_matrix.proofs.every_rows.EveryRows.into_matrix.Goals as goal

pub build-requires-clause-reaches : goal.build-requires-clause-reaches
build-requires-clause-reaches c = c.requires.way.reaches
