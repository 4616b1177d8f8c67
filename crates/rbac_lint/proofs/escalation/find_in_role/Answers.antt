use Rattle.rbac_terms.proofs.Cases.{on_ok}
use Rattle.rbac_model.specs.Sources.{source_of}
use Rattle.rbac_lint.specs.Findings.{IsEscalationAt, IsEscalationOf}
use Rattle.rbac_lint.proofs.Named.{escalation_names}
use Rattle.rbac_lint.proofs.Kept.{AddsLines-asked, AddsLines-unasked}
use Rattle.rbac_lint.proofs.escalation.find_in_role.Goals as goal

pub returns-in-Some : goal.returns-in-Some
unfolding IsEscalationOf
returns-in-Some c =
    on_ok c.find_in_rules.result
    (AddsLines-asked (λ s rules. IsEscalationAt s) 4 escalation_names c.args.wanted.now (source_of c.args.role) c.in-Some.rules.now c.args.found.now c.find_in_rules.new.found c.in-Some.ensures) c.find_in_rules.ensures

pub returns-in-None : goal.returns-in-None
unfolding IsEscalationOf
returns-in-None c = AddsLines-unasked (λ s rules. IsEscalationAt s) 4 escalation_names c.args.wanted.now (source_of c.args.role) c.args.found.now c.in-None.ensures
