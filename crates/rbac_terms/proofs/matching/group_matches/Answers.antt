use Rattle.std.proofs.Common.{rules}
use Rattle.rbac_terms.proofs.matching.group_matches.Goals as goal

pub returns : goal.returns
returns c = search rules
