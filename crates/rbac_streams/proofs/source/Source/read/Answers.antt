use Rattle.std.proofs.Common.{rules}
use Rattle.rbac_streams.proofs.source.Source.read.Goals as goal

pub returns-in-Ok-clause-ok : goal.returns-in-Ok-clause-ok
returns-in-Ok-clause-ok g c = (search rules, search rules, search rules, c.if-self.false)
