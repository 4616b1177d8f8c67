use Rattle.rbac_lint.specs.Lines.{AddsLines, OfFirst}
use Rattle.rbac_lint.specs.Replaced.{IsReplacedOf}
use Rattle.rbac_lint.specs.Wanted.{OfKept}
use Rattle.rbac_lint.proofs.replaced_object.find_replaced.Given as goal

abbrev pub invariant-loop-object : goal.invariant-loop-object
invariant-loop-object l = AddsLines (OfFirst (λ k r. OfKept l.wanted (IsReplacedOf r)) l.replaced l.object-index) l.initial.found l.found
