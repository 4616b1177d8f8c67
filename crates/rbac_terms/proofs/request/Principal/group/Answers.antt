use Rattle.std.proofs.Common.{rules}
use Rattle.rbac_terms.proofs.request.Principal.group.Goals as goal

pub invariant_of-result : goal.invariant_of-result
invariant_of-result c = search rules

pub returns-clause-ok : goal.returns-clause-ok
returns-clause-ok c = search rules
