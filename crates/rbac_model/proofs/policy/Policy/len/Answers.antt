use Rattle.rbac_model.proofs.policy.Policy.len.Goals as goal

pub returns-clause-len : goal.returns-clause-len
returns-clause-len c = c.places.ensures.len
