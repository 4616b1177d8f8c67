use Rattle.rbac_index.proofs.numbers.GrantNos.as_slice.Goals as goal

pub returns-clause-numbers : goal.returns-clause-numbers
returns-clause-numbers c = rw (← c.self.view_is) c.as_slice.ensures.value
