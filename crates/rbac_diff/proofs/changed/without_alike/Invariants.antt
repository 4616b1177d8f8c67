use Rattle.std.proofs.Common.{◌≡◌, length}
use Rattle.rbac_diff.specs.Unchanged.{UnflaggedGrantNoMore}
use Rattle.rbac_diff.proofs.changed.without_alike.Given as goal

abbrev pub invariant-loop-place : goal.invariant-loop-place
invariant-loop-place l = (length l.left.items ≡ l.place) × UnflaggedGrantNoMore l.own l.left.items l.other
