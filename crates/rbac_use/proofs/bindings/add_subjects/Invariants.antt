use Rattle.rbac_use.specs.Adding.{AddsLines, OfFirst}
use Rattle.rbac_use.specs.Asked.{IsSubjectLine}
use Rattle.rbac_use.proofs.bindings.add_subjects.Given as goal

abbrev pub invariant-loop-at : goal.invariant-loop-at
invariant-loop-at l = AddsLines (OfFirst (IsSubjectLine l.place l.asked l.binding) l.at) l.initial.found.items l.found.items
