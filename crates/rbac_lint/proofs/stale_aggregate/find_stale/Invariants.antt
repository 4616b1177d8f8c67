use Rattle.rbac_lint.specs.Lines.{AddsLines, OfFirst}
use Rattle.rbac_lint.specs.Findings.{IsStaleOf}
use Rattle.rbac_lint.specs.Wanted.{OfKept}
use Rattle.rbac_lint.proofs.stale_aggregate.find_stale.Given as goal

abbrev pub invariant-loop-place : goal.invariant-loop-place
invariant-loop-place l = AddsLines (OfFirst (λ k r. OfKept l.wanted (IsStaleOf l.policy.held r)) l.roles l.place) l.initial.found l.found
