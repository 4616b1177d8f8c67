use Rattle.std.proofs.Common.{sym, subst}
use Rattle.std.proofs.lemmas.Bool.{both_ways}
use Rattle.rbac_model.specs.OwnWords.{IsStars}
use Rattle.rbac_model.proofs.UrlWords.{AllowsUrlWord-stars, AllowsUrlWord-other}
use Rattle.rbac_model.proofs.own_words.allows_url_word.Goals as goal

pub returns-then-is_stars : goal.returns-then-is_stars
returns-then-is_stars c =
    let i = AllowsUrlWord-stars c.args.rule.now c.args.word.now (subst IsStars c.as_bytes.ensures (c.is_stars.ensures.0 c.if-is_stars.true)) in
    (λ h. i.0 (c.allows_each_path.ensures.0 h), λ u. c.allows_each_path.ensures.1 (i.1 u))

pub returns-else-is_stars : goal.returns-else-is_stars
returns-else-is_stars c =
    let i = AllowsUrlWord-other c.args.rule.now c.args.word.now (λ s. both_ways _ c.if-is_stars.false (c.is_stars.ensures.1 (subst IsStars (sym c.as_bytes.ensures) s))) in
    (λ h. i.0 (c.url_matches.ensures.0 h), λ u. c.url_matches.ensures.1 (i.1 u))
