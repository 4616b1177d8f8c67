use Rattle.std.proofs.Common.{subst, ap}
use Rattle.rbac_terms.specs.Text.{Text}
use Rattle.rbac_terms.proofs.Cases.{on_ok}
use Rattle.rbac_model.specs.Sources.{source_of}
use Rattle.rbac_lint.specs.Lines.{AddsLines}
use Rattle.rbac_lint.specs.Findings.{IsEscalationBy}
use Rattle.rbac_lint.proofs.Named.{AddsLines-verbs}
use Rattle.rbac_lint.proofs.escalation.find_in_rule.Goals as goal

pub returns : goal.returns
returns c =
    let s = source_of c.args.role in
    let i = c.args.place in
    let r = c.args.rule.now in
    let old = c.args.found.now in
    let mid = c.find_by_verb.new.found in
    let new = c.find_by_verb-2.new.found in
    let P : Text → Type 0 = λ v. AddsLines (IsEscalationBy v s i r) old mid in
    let Q : Text → Type 0 = λ v. AddsLines (IsEscalationBy v s i r) mid new in
    on_ok c.find_by_verb-2.result
    (λ h. AddsLines-verbs s i r old mid new (subst P (ap (λ p. p.bind) c.requires) c.in_ok-find_by_verb.ensures) (subst Q (ap (λ p. p.escalate) c.requires) h))
    c.find_by_verb-2.ensures
