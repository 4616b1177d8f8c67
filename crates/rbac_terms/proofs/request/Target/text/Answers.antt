use Rattle.std.proofs.Common.{rules}
use Rattle.rbac_terms.proofs.request.Target.text.Goals as goal

pub returns-clause-text : goal.returns-clause-text
returns-clause-text c = search rules
