use Rattle.std.proofs.Common.{take}
use Rattle.rbac_near.proofs.Adding.{AddsOf}
use Rattle.rbac_near.proofs.members.add_groups.Given as goal

abbrev pub invariant-loop-place : goal.invariant-loop-place
invariant-loop-place l = AddsOf l.number l.binding.subjects (take l.place l.subject-items) l.initial.found l.found
