use Rattle.std.proofs.Common.{◌≡◌, ◌∙◌, ap, subst, sym}
use Rattle.std.specs.Prelude.{Some}
use Rattle.std.proofs.lemmas.Option.{same_Some}
use Rattle.rbac_model.specs.Lists.{IsFirstAt}
use Rattle.rbac_model.specs.Policies.{BindingNames, GrantView}
use Rattle.rbac_model.specs.Sources.{grant_of}
use Rattle.rbac_paths.specs.Aims.{GrantServes}
use Rattle.rbac_paths.proofs.reason.by_number.Goals as goal

pub naming-requires : goal.naming-requires
naming-requires c =
    let of = c.grant-grant.ensures.binding in
    let same : of.0 ≡ grant_of c.grant-grant.result = same_Some of.0 (grant_of c.grant-grant.result) (sym of.1 ∙ c.grant-grant.ensures.grant) in
    rw c.requires.subjects (of.2 ∙ ap (λ (g : GrantView). Some g.binding) same)

pub returns-in_err-subject : goal.returns-in_err-subject
returns-in_err-subject c aim first is =
    let same : first ≡ grant_of c.grant-grant.result = same_Some first (grant_of c.grant-grant.result) (sym is.here ∙ c.grant-grant.ensures.grant) in
    absurd (c.in_err-subject.ensures (subst (λ (g : GrantView). BindingNames g.binding c.args.who.now) same is.holds.0))

pub returns : goal.returns
returns c aim first is =
    let same : first ≡ grant_of c.grant-grant.result = same_Some first (grant_of c.grant-grant.result) (sym is.here ∙ c.grant-grant.ensures.grant) in
    (c.in_ok-subject.ensures, (c.args.no, subst (λ (g : GrantView). IsFirstAt (GrantServes aim c.args.who.now) c.args.policy.now.grants c.args.no g) same is))
