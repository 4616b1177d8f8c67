use Rattle.std.proofs.Common.{rules}
use Rattle.rbac_terms.proofs.matching.rule_allows.Goals as goal

pub returns-then-verb_matches : goal.returns-then-verb_matches
returns-then-verb_matches c = search rules

pub returns-else-verb_matches : goal.returns-else-verb_matches
returns-else-verb_matches c = search rules
