use Rattle.std.proofs.Common.{rules}
use Rattle.rbac_terms.proofs.matching.target_matches.Goals as goal

pub returns-then-is_url : goal.returns-then-is_url
returns-then-is_url c = search rules
