use Rattle.rbac_diff.proofs.OneStar.{gives-one_star}
use Rattle.rbac_diff.proofs.covering.is_asked_url.Goals as goal

pub returns : goal.returns
returns c =
    let same = gives-one_star c.args.word.now in
    (λ t. same.0 (c.gives_path.ensures.0 t), λ h. c.gives_path.ensures.1 (same.1 h))
