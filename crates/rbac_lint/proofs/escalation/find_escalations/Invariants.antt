use Rattle.rbac_lint.specs.Lines.{AddsLines, OfFirst}
use Rattle.rbac_lint.specs.Roles.{roles_in}
use Rattle.rbac_lint.specs.Findings.{IsEscalationOf}
use Rattle.rbac_lint.specs.Wanted.{OfKept}
use Rattle.rbac_lint.proofs.escalation.find_escalations.Given as goal

abbrev pub invariant-loop-place : goal.invariant-loop-place
invariant-loop-place l = AddsLines (OfFirst (λ k s. OfKept l.wanted (IsEscalationOf s)) (roles_in l.objects) l.place) l.initial.found l.found
