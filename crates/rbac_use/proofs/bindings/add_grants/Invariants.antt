use Rattle.rbac_use.specs.Adding.{AddsLines, OfFirst}
use Rattle.rbac_use.specs.Rules.{IsGrantLine}
use Rattle.rbac_use.proofs.bindings.add_grants.Given as goal

abbrev pub invariant-loop-number : goal.invariant-loop-number
invariant-loop-number l = AddsLines (OfFirst (IsGrantLine l.policy l.place l.asked) l.number) l.initial.found.items l.found.items
