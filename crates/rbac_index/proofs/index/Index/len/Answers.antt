use Rattle.rbac_index.proofs.index.Index.len.Goals as goal

pub returns : goal.returns
returns c = rw (← c.self.view_is) c.len.ensures.len
