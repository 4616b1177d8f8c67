use Rattle.std.proofs.Common.{rules}
use Rattle.rbac_terms.proofs.request.Target.name.Goals as goal

pub returns-clause-name : goal.returns-clause-name
returns-clause-name c = search rules
