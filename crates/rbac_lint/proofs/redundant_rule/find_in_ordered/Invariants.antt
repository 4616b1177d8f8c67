use Rattle.rbac_model.specs.Sources.{source_of}
use Rattle.rbac_lint.specs.Lines.{AddsLines, OfFirst}
use Rattle.rbac_lint.specs.Findings.{IsRedundantAt}
use Rattle.rbac_lint.proofs.redundant_rule.find_in_ordered.Given as goal

abbrev pub invariant-loop-place : goal.invariant-loop-place
invariant-loop-place l = AddsLines (OfFirst (λ i r. IsRedundantAt (source_of l.role) l.rules i) l.rules l.place) l.initial.found l.found
