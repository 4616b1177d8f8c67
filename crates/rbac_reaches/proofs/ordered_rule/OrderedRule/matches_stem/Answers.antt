use Rattle.std.proofs.lemmas.Bool.{both_ways}
use Rattle.rbac_reaches.proofs.ordered_rule.OrderedRule.matches_stem.Goals as goal

pub returns-then-matches : goal.returns-then-matches
returns-then-matches c =
    let group = c.matches.ensures.0 c.if-matches.true in
    let groups = rw (c.group.ensures.group, c.self.invariant.0, c.self.view_is) at group in
    let resources = rw c.text.ensures.text at c.matches_resource.ensures in
    (λ h. (groups, resources.0 h), λ ok. resources.1 ok.1)

pub returns-else-matches : goal.returns-else-matches
returns-else-matches c =
    let told = rw (c.group.ensures.group, c.self.invariant.0, c.self.view_is) at c.matches.ensures in
    (λ h. cc, λ ok. absurd (both_ways _ c.if-matches.false (told.1 ok.0)))
