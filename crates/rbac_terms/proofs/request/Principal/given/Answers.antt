use Rattle.std.proofs.Common.{rules}
use Rattle.rbac_terms.proofs.request.Principal.given.Goals as goal

pub returns-then-self : goal.returns-then-self
returns-then-self c = search rules
