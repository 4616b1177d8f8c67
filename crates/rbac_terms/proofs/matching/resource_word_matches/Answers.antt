use Rattle.std.proofs.Common.{rules}
use Rattle.rbac_terms.proofs.matching.resource_word_matches.Goals as goal

pub returns-then-word_matches : goal.returns-then-word_matches
returns-then-word_matches c = search rules

pub returns-then-not-is_empty : goal.returns-then-not-is_empty
returns-then-not-is_empty c = search rules
