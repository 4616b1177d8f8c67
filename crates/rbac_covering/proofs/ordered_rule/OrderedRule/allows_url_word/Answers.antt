use Rattle.rbac_terms.specs.Matching.{UrlWordMatches}
use Rattle.rbac_model.specs.OwnWords.{AllowsUrlWord}
use Rattle.rbac_model.proofs.OwnWords.{UrlWordMatches-own, any_from}
use Rattle.rbac_covering.proofs.ordered_rule.OrderedRule.allows_url_word.Goals as goal

pub returns-then-contains : goal.returns-then-contains
unfolding AllowsUrlWord
returns-then-contains c =
    let word = c.args.word.now in
    let urls = c.args.self.now.urls in
    (λ t x sample. any_from (λ u. UrlWordMatches u x) urls word (rw (← c.self.view_is) (rw c.self.invariant.4 at (c.contains.ensures.0 t))) (UrlWordMatches-own word x sample), λ allows. c.if-contains.true)
