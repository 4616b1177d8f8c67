use Rattle.std.proofs.lemmas.Bool.{both_ways}
use Rattle.rbac_covering.proofs.Samples.{covers_with, covers_without}
use Rattle.rbac_covering.proofs.coverage.covers.Goals as goal

pub returns-then-covers_resources : goal.returns-then-covers_resources
returns-then-covers_resources c =
    let resources = c.covers_resources.ensures.0 c.if-covers_resources.true in
    let e = covers_with c.args.a.now c.args.b.now c.covers_urls.result resources c.covers_urls.ensures in
    record { all = e.0; samples = e.1; lists = (λ h. (resources, c.covers_urls.ensures.0 h), λ both. c.covers_urls.ensures.1 both.1) }

pub returns-else-covers_resources : goal.returns-else-covers_resources
returns-else-covers_resources c =
    let e = covers_without c.args.a.now c.args.b.now (λ h. both_ways _ c.if-covers_resources.false (c.covers_resources.ensures.1 h)) in
    record { all = (λ h. cc, λ x. absurd (e.0 x)); samples = (λ h. cc, λ x. absurd (e.1 x)); lists = (λ h. cc, λ both. absurd (both_ways _ c.if-covers_resources.false (c.covers_resources.ensures.1 both.0))) }
