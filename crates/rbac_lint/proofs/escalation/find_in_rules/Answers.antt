use Rattle.std.proofs.Common.{arith, refl}
use Rattle.std.proofs.lemmas.Option.{slice_get_read}
use Rattle.rbac_model.specs.Sources.{source_of}
use Rattle.rbac_lint.specs.Roles.{source_object}
use Rattle.rbac_lint.specs.Findings.{IsEscalationAt}
use Rattle.rbac_lint.proofs.Exact.{AddsLines-start, AddsLines-each}
use Rattle.rbac_lint.proofs.Order.{AddsLines-next_place}
use Rattle.rbac_lint.proofs.Named.{escalation_places}
use Rattle.rbac_lint.proofs.escalation.find_in_rules.Goals as goal

pub loop-place-init : goal.loop-place-init
loop-place-init c = AddsLines-start (IsEscalationAt (source_of c.args.role)) c.args.rules.now c.args.found.now

pub loop-place-preserved : goal.loop-place-preserved
loop-place-preserved c =
    let s = source_of c.args.role in
    let rules = c.args.rules.now in
    let i = c.loop-place.place in
    let r = c.index-rules-place.result in
    AddsLines-next_place (IsEscalationAt s) 4 (source_object s) (escalation_places s) rules i r c.args.found.now c.loop-place.found c.find_in_rule.new.found
    (slice_get_read rules _ i r refl c.loop-place-test.true c.index-rules-place.is) c.loop-place.invariant c.in_ok-find_in_rule.ensures

pub returns : goal.returns
returns c = AddsLines-each (IsEscalationAt (source_of c.args.role)) c.args.rules.now c.loop-place.place c.args.found.now c.loop-place.found (omega arith) c.loop-place.invariant
