use Rattle.std.proofs.Common.{take}
use Rattle.rbac_ways.specs.Joining.{AddsToEach}
use Rattle.rbac_ways.proofs.joining.add_to_each.Given as goal

abbrev pub invariant-loop-place : goal.invariant-loop-place
invariant-loop-place l = AddsToEach (take l.place-index l.places) l.node l.initial.lists.items l.lists.items
