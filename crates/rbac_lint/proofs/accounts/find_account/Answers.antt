use Rattle.std.proofs.Common.{◌≡◌, ◌∙◌, ap, refl}
use Rattle.std.specs.Prelude.{Some}
use Rattle.rbac_terms.proofs.Cases.{on_ok}
use Rattle.rbac_lint.specs.declared.finding.Finding.{Finding}
use Rattle.rbac_lint.specs.Lines.{Line, shown}
use Rattle.rbac_lint.specs.Findings.{IsAccountWithoutAt, binding_line}
use Rattle.rbac_lint.proofs.Exact.{AddsLines-none, AddsLines-one}
use Rattle.rbac_lint.proofs.accounts.find_account.Goals as goal

pub returns-in_default : goal.returns-in_default
unfolding IsAccountWithoutAt
returns-in_default c = AddsLines-none (IsAccountWithoutAt c.args.binding.now c.args.place c.args.subject.now) c.args.found.now (λ x h. c.in_default.ensures h.0 h.1)

pub returns : goal.returns
unfolding IsAccountWithoutAt
returns c =
    let object = c.in_ok-object.ensures in
    let other = c.in_ok-other.ensures in
    let made : Finding = record { code = 5; object = c.in_ok-object.object; place = Some c.args.place; other = c.in_ok-other.other } in
    let line : Line = binding_line 5 c.args.binding.now (Some c.args.place) c.in-Some.name.now in
    let same : made ≡ shown line = cc (object, other, c.as_bytes.ensures) in
    on_ok c.push.result
    (λ h. AddsLines-one (IsAccountWithoutAt c.args.binding.now c.args.place c.args.subject.now) c.args.found.now c.push.new.self made line h same (c.in-Some.name.now, c.in-Some.ensures, refl)
    (λ y k. (let one : k.0 ≡ c.in-Some.name.now = cc (k.1, c.in-Some.ensures) in k.2 ∙ ap (λ n. binding_line 5 c.args.binding.now (Some c.args.place) n) one)))
    c.push.ensures
