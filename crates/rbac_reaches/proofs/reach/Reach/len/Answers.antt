use Rattle.std.proofs.Common.{◌∙◌, ap, length}
use Rattle.rbac_reaches.proofs.reach.Reach.len.Goals as goal

pub returns-clause-len : goal.returns-clause-len
returns-clause-len c = c.len.ensures.len ∙ ap length (c.deref.ensures ∙ c.self.view_is)
