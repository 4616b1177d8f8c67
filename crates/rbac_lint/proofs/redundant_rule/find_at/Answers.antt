use Rattle.std.proofs.Common.{◌≡◌, ◌+◌, ℕ, subst}
use Rattle.std.specs.Prelude.{Option, Some, decimal}
use Rattle.rbac_terms.proofs.Cases.{on_ok}
use Rattle.rbac_model.specs.Sources.{source_of}
use Rattle.rbac_lint.specs.declared.finding.Finding.{Finding}
use Rattle.rbac_lint.specs.Lines.{shown}
use Rattle.rbac_lint.specs.Findings.{role_line}
use Rattle.rbac_lint.specs.Candidates.{IsLeastCoverIfAny}
use Rattle.rbac_lint.proofs.Least.{AddsLines-redundant, AddsLines-not_redundant}
use Rattle.rbac_lint.proofs.redundant_rule.find_at.Goals as goal

pub returns-in_default : goal.returns-in_default
returns-in_default c =
    AddsLines-not_redundant (source_of c.args.role) c.args.rules.now c.args.place c.args.found.now
    (subst (λ (o : Option ℕ). IsLeastCoverIfAny c.args.rules.now c.args.place o) c.in_default.is c.in_ok-wide.ensures.least)

pub returns : goal.returns
returns c =
    let least = subst (λ (o : Option ℕ). IsLeastCoverIfAny c.args.rules.now c.args.place o) c.in-Some.is c.in_ok-wide.ensures.least in
    let object = c.in_ok-object.ensures in
    let other = c.in_ok-other.ensures in
    let made : Finding = record { code = 3; object = c.in_ok-object.object; place = Some c.args.place; other = c.in_ok-other.other } in
    let wanted : Finding = shown (role_line 3 (source_of c.args.role) (Some c.args.place) (decimal (c.in-Some.wide + 1))) in
    let same : made ≡ wanted = cc (object, other) in
    on_ok c.push.result
    (λ h. AddsLines-redundant (source_of c.args.role) c.args.rules.now c.args.place c.in-Some.wide c.args.found.now c.push.new.self made least same h)
    c.push.ensures
