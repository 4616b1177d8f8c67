use Rattle.rbac_index.proofs.index.Index.grant.Goals as goal

pub returns-clause-grant : goal.returns-clause-grant
returns-clause-grant c = rw (← c.self.view_is) c.grant.ensures.grant

pub returns-clause-binding : goal.returns-clause-binding
returns-clause-binding c = rw (← c.self.view_is) c.grant.ensures.binding
