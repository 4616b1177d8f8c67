use Rattle.std.proofs.Common.{rules}
use Rattle.rbac_terms.proofs.request.Target.group.Goals as goal

pub returns-clause-group : goal.returns-clause-group
returns-clause-group c = search rules
