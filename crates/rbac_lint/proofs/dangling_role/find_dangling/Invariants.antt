use Rattle.rbac_lint.specs.Lines.{AddsLines, OfFirst}
use Rattle.rbac_lint.specs.Findings.{IsDanglingOf}
use Rattle.rbac_lint.specs.Wanted.{OfKept}
use Rattle.rbac_lint.proofs.dangling_role.find_dangling.Given as goal

abbrev pub invariant-loop-binding : goal.invariant-loop-binding
invariant-loop-binding l = AddsLines (OfFirst (λ k b. OfKept l.wanted (IsDanglingOf l.objects b)) l.bindings l.binding-index) l.initial.found l.found
