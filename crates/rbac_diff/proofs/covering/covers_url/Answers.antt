use Rattle.rbac_diff.proofs.OneStar.{covers-one_star}
use Rattle.rbac_diff.proofs.covering.covers_url.Goals as goal

pub returns : goal.returns
returns c =
    let same = covers-one_star c.args.rule.now c.args.word.now in
    (λ t. same.0 (c.allows_url_word.ensures.0 t), λ h. c.allows_url_word.ensures.1 (same.1 h))
