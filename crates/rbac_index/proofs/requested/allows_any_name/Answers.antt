use Rattle.std.proofs.lemmas.Bool.{both_ways}
use Rattle.rbac_index.proofs.NameLemmas.{url_any, resource_any}
use Rattle.rbac_index.proofs.requested.allows_any_name.Goals as goal

pub returns-then-is_url : goal.returns-then-is_url
returns-then-is_url c =
    let any = url_any c.args.rule.now c.args.verb.now c.args.target.now c.if-is_url.ensures in
    (λ t. any.0 (c.rule_allows.ensures.0 t), λ some. c.rule_allows.ensures.1 (any.1 some))

pub returns-then-verb_matches : goal.returns-then-verb_matches
returns-then-verb_matches c =
    let any = resource_any c.args.rule.now c.args.verb.now c.args.target.now c.if-is_url.ensures in
    (λ t. any.0 (c.verb_matches.ensures.0 c.if-verb_matches.true, c.matches_stem.ensures.0 t), λ some. c.matches_stem.ensures.1 (any.1 some).1)

pub returns-else-verb_matches : goal.returns-else-verb_matches
returns-else-verb_matches c =
    let any = resource_any c.args.rule.now c.args.verb.now c.args.target.now c.if-is_url.ensures in
    (λ t. absurd (both_ways _ c.if-verb_matches.false t), λ some. c.verb_matches.ensures.1 (any.1 some).0)
