use Rattle.rbac_lint.specs.Lines.{AddsLines, OfFirst}
use Rattle.rbac_lint.specs.Findings.{IsAccountWithoutAt}
use Rattle.rbac_lint.proofs.accounts.find_accounts_of.Given as goal

abbrev pub invariant-loop-place : goal.invariant-loop-place
invariant-loop-place l = AddsLines (OfFirst (IsAccountWithoutAt l.binding) l.subjects l.place) l.initial.found l.found
