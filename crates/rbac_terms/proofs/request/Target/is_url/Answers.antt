use Rattle.std.proofs.Common.{rules}
use Rattle.rbac_terms.proofs.request.Target.is_url.Goals as goal

pub returns : goal.returns
returns c = search rules
