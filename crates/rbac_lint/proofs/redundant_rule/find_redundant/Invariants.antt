use Rattle.rbac_lint.specs.Lines.{AddsLines, OfFirst}
use Rattle.rbac_lint.specs.Roles.{roles_in}
use Rattle.rbac_lint.specs.Findings.{IsRedundantOf}
use Rattle.rbac_lint.specs.Wanted.{OfKept}
use Rattle.rbac_lint.proofs.redundant_rule.find_redundant.Given as goal

abbrev pub invariant-loop-place : goal.invariant-loop-place
invariant-loop-place l = AddsLines (OfFirst (λ k s. OfKept l.wanted (IsRedundantOf s)) (roles_in l.objects) l.place) l.initial.found l.found
