use Rattle.std.proofs.Common.{◌≡◌, length}
use Rattle.rbac_diff.specs.Permissions.{one_star}
use Rattle.rbac_diff.proofs.permission.with_one_star.Given as goal

abbrev pub invariant-loop-rest : goal.invariant-loop-rest
invariant-loop-rest l = one_star l.rest ≡ one_star l.word

abbrev pub decreases-loop-rest : goal.decreases-loop-rest
decreases-loop-rest l = length l.rest
