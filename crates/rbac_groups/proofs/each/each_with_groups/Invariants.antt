use Rattle.std.proofs.Common.{◌≡◌, map}
use Rattle.rbac_groups.specs.Memberships.{with_memberships}
use Rattle.rbac_groups.proofs.each.each_with_groups.Given as goal

abbrev pub invariant-loop-principal : goal.invariant-loop-principal
invariant-loop-principal l = l.given.items ≡ map (with_memberships l.fn.listed) l.yielded
