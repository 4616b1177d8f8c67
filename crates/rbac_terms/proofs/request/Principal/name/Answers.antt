use Rattle.std.proofs.lemmas.Grind.{common_steps}
use Rattle.std.proofs.Common.{arith}
use Rattle.rbac_terms.proofs.request.Principal.name.Goals as goal

pub returns-clause-name : goal.returns-clause-name
returns-clause-name c = grind (arith, common_steps)
