use Rattle.std.proofs.Common.{◌↔◌, not, true, ◌≡◌, refl, subst}
use Rattle.rbac_terms.specs.Principals.{Who}
use Rattle.rbac_model.specs.Policies.{PolicyView, Allows, IsFirst}
use Rattle.rbac_catalogue.specs.Catalogue.{CatalogueView}
use Rattle.rbac_index.specs.Deciding.{IsWhyShown}
use Rattle.rbac_cli.specs.Meant.{IsMeant, IsOutside, request_meant}
use Rattle.rbac_cli.specs.Out.{FollowsNo, IsVerdict}
use Rattle.rbac_cli.specs.Verdicts.{yes_text}
use Rattle.rbac_cli.specs.declared.outcome.Status.TheVariants.{Zero, One}
use Rattle.rbac_cli.proofs.Verdicts.{verdict_yes, verdict_no, after_no}
use Rattle.rbac_cli.proofs.can_i.verdict_of.Goals as goal

pub returns-in-Some : goal.returns-in-Some
returns-in-Some c =
    let l = c.args.export.now in
    let options = c.args.options in
    let who = c.in_ok-who.who in
    let q = c.args.question.now in
    let target = c.in_ok-meant.meant.target in
    let namespace = c.in_ok-meant.meant.namespace in
    let found = c.in-Some.found in
    rw c.in_ok-text-in-Some.ensures (subst (λ (w : Who). IsVerdict l w options q (yes_text options.quiet options.why found) Zero) c.in_ok-who.ensures (verdict_yes l who q target namespace
    (subst (λ (v : CatalogueView). IsMeant v.entries q target namespace) c.catalogue.ensures c.in_ok-meant.ensures.meant)
    options found
    (subst (λ (p : PolicyView). IsWhyShown p who namespace q.verb target found) c.policy-policy.ensures c.in-Some.ensures.why)
    (subst (λ (p : PolicyView). IsFirst p.held who namespace q.verb target found.binding.now) c.policy-policy.ensures c.in-Some.ensures.first)))

pub returns : goal.returns
returns c =
    let l = c.args.export.now in
    let who = c.in_ok-who.who in
    let q = c.args.question.now in
    let options = c.args.options in
    let target = c.in_ok-meant.meant.target in
    let namespace = c.in_ok-meant.meant.namespace in
    let outside = c.in_ok-meant.meant.is_outside in
    let meant = subst (λ (v : CatalogueView). IsMeant v.entries q target namespace) c.catalogue.ensures c.in_ok-meant.ensures.meant in
    let is = subst (λ (v : CatalogueView). (outside ≡ true) ↔ IsOutside v.entries q target) c.catalogue.ensures c.in_ok-meant.ensures.outside in
    let text = c.in_ok-text-in-None.ensures in
    let follows = subst (λ (p : PolicyView). FollowsNo p (request_meant who q target namespace (not outside)) options.quiet options.why_not text.0) c.policy-policy.ensures text.1 in
    subst (λ (w : Who). IsVerdict l w options q c.in_ok-text-in-None.text.items One) c.in_ok-who.ensures (verdict_no l who q target namespace meant options c.in_ok-text-in-None.text.items text.0
    (subst (λ (p : PolicyView). ¬ Allows p.held who namespace q.verb target) c.policy-policy.ensures c.in-None.ensures.why)
    (after_no l who q target namespace meant outside (not outside) options.quiet options.why_not text.0 is refl follows)
    text.2)
