use Rattle.std.proofs.lemmas.Bool.{both_ways}
use Rattle.rbac_index.proofs.requested.matches_stem.Goals as goal

pub returns-then-group_matches : goal.returns-then-group_matches
returns-then-group_matches c = rw (← c.group.ensures.group, ← c.text.ensures.text) (λ t. (c.group_matches.ensures.0 c.if-group_matches.true, c.resource_matches.ensures.0 t), λ s. c.resource_matches.ensures.1 s.1)

pub returns-else-group_matches : goal.returns-else-group_matches
returns-else-group_matches c = rw (← c.group.ensures.group) (λ t. absurd (both_ways _ c.if-group_matches.false t), λ s. c.group_matches.ensures.1 s.0)
