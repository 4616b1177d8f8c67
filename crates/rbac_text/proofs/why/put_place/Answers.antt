use Rattle.std.proofs.Common.{rules}
use Rattle.rbac_text.proofs.why.put_place.Goals as goal

pub returns-clause-added : goal.returns-clause-added
returns-clause-added c = search rules
