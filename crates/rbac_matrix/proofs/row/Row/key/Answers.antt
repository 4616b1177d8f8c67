use Rattle.rbac_matrix.proofs.row.Row.key.Goals as goal

pub returns-clause-ok : goal.returns-clause-ok
returns-clause-ok c = c.in_ok-of_texts.ensures.ok
