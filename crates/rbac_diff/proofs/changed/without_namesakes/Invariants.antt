use Rattle.std.proofs.Common.{◌≡◌, length}
use Rattle.rbac_diff.specs.Unchanged.{UnflaggedGrantNoMore}
use Rattle.rbac_diff.proofs.changed.without_namesakes.Given as goal

abbrev pub invariant-loop-place : goal.invariant-loop-place
invariant-loop-place l = (length l.flags.items ≡ l.place) × UnflaggedGrantNoMore l.own l.flags.items l.other
