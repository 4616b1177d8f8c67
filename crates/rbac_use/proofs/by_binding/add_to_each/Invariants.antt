use Rattle.std.proofs.Common.{◌-◌, length}
use Rattle.rbac_use.specs.ByBinding.{AddsWhere}
use Rattle.rbac_use.proofs.ByBinding.{AllowsBefore}
use Rattle.rbac_use.proofs.by_binding.add_to_each.Given as goal

abbrev pub invariant-loop-place : goal.invariant-loop-place
invariant-loop-place l = AddsWhere (AllowsBefore l.policy l.request l.from) l.request l.fn.lists.items l.lists.items

abbrev pub decreases-loop-place : goal.decreases-loop-place
decreases-loop-place l = length l.policy.held.bindings - l.from
