use Rattle.std.proofs.Common.{rules}
use Rattle.rbac_terms.proofs.request.is_path.Goals as goal

pub returns-clause-path : goal.returns-clause-path
returns-clause-path c = search rules

pub returns-clause-value : goal.returns-clause-value
returns-clause-value c = search rules
