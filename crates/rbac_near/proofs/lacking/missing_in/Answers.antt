use Rattle.rbac_model.specs.Sources.{grant_of}
use Rattle.rbac_near.specs.Near.{request_of}
use Rattle.rbac_near.proofs.OfTarget.{of_target}
use Rattle.rbac_near.proofs.lacking.missing_in.Goals as goal

pub returns : goal.returns
returns c = λ m.
    let of = of_target (request_of c.args.request) (grant_of c.args.grant) (c.is_live.ensures.0 c.if-not-is_live.false) (c.verb_matches.ensures.0 c.if-not-verb_matches.false) m in
    let told = c.missing_of_target.ensures m in
    (λ e. of.0 (told.0 e), λ l. told.1 (of.1 l))
