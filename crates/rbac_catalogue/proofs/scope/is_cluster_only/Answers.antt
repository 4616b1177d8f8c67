use Rattle.std.proofs.Common.{◌∙◌, sym}
use Rattle.std.proofs.lemmas.Bool.{false≢true}
use Rattle.rbac_catalogue.specs.Catalogue.{IsListed}
use Rattle.rbac_catalogue.proofs.Scoping.{asked_by_resource, no_resource}
use Rattle.rbac_catalogue.proofs.scope.is_cluster_only.Goals as goal

pub returns-in-Some : goal.returns-in-Some
returns-in-Some c =
    let unlisted : ¬ IsListed c.args.entries.now c.args.group.now c.args.text.now = λ w. false≢true (sym c.if-is_listed.false ∙ c.is_listed.ensures.1 w) in
    let same = asked_by_resource c.args.entries.now c.args.group.now c.args.text.now unlisted c.in-Some.resource.now c.in-Some.field-0-1.now c.in-Some.ensures in
    (λ w. same.0 (c.is_cluster_scoped-in-Some.ensures.0 w), λ w. c.is_cluster_scoped-in-Some.ensures.1 (same.1 w))

pub returns-in-None : goal.returns-in-None
returns-in-None c =
    let unlisted : ¬ IsListed c.args.entries.now c.args.group.now c.args.text.now = λ w. false≢true (sym c.if-is_listed.false ∙ c.is_listed.ensures.1 w) in
    (λ w. absurd (false≢true w), λ w. absurd (no_resource c.args.entries.now c.args.group.now c.args.text.now unlisted c.in-None.ensures w))
