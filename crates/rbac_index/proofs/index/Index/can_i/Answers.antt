use Rattle.rbac_index.proofs.index.Index.can_i.Goals as goal

pub returns-clause-why : goal.returns-clause-why
returns-clause-why c = rw (← c.self.view_is) c.why_allowed.ensures.why

pub returns-clause-first : goal.returns-clause-first
returns-clause-first c = rw (← c.self.view_is) c.why_allowed.ensures.first
