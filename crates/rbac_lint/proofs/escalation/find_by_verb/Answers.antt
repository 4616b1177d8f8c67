use Rattle.std.proofs.Common.{◌≡◌}
use Rattle.std.specs.Prelude.{Some}
use Rattle.std.proofs.lemmas.Bool.{both_ways}
use Rattle.rbac_terms.proofs.Cases.{on_ok}
use Rattle.rbac_model.specs.Sources.{source_of}
use Rattle.rbac_lint.specs.declared.finding.Finding.{Finding}
use Rattle.rbac_lint.specs.Lines.{Line, shown}
use Rattle.rbac_lint.specs.Findings.{Escalates, IsEscalationBy, role_line}
use Rattle.rbac_lint.proofs.Exact.{AddsLines-nowhere, AddsLines-if}
use Rattle.rbac_lint.proofs.escalation.find_by_verb.Goals as goal

pub returns-then-not-escalates : goal.returns-then-not-escalates
unfolding IsEscalationBy
returns-then-not-escalates c =
    let verb = c.args.verb.now in
    AddsLines-nowhere (Escalates c.args.rule.now verb) (λ x. x ≡ role_line 4 (source_of c.args.role) (Some c.args.place) verb) c.args.found.now
    (λ h. both_ways _ c.if-not-escalates.true (c.escalates.ensures.1 h))

pub returns : goal.returns
unfolding IsEscalationBy
returns c =
    let object = c.in_ok-object.ensures in
    let other = c.in_ok-other.ensures in
    let made : Finding = record { code = 4; object = c.in_ok-object.object; place = Some c.args.place; other = c.in_ok-other.other } in
    let line : Line = role_line 4 (source_of c.args.role) (Some c.args.place) c.args.verb.now in
    let same : made ≡ shown line = cc (object, other, c.as_bytes.ensures) in
    on_ok c.push.result
    (λ h. AddsLines-if (Escalates c.args.rule.now c.args.verb.now) line c.args.found.now c.push.new.self made (c.escalates.ensures.0 c.if-not-escalates.false) same h)
    c.push.ensures
