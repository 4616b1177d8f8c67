use Rattle.std.proofs.Common.{rules}
use Rattle.rbac_covering.specs.Covering.{AllowsVerbs}
use Rattle.rbac_covering.proofs.coverage.allows_verbs.Goals as goal

pub returns : goal.returns
unfolding AllowsVerbs
returns c = search rules
