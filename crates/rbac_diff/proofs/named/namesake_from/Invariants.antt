use Rattle.std.proofs.Common.{length, ◌-◌}
use Rattle.rbac_diff.proofs.named.namesake_from.Given as goal

abbrev pub decreases-loop-from : goal.decreases-loop-from
decreases-loop-from g l = length l.objects - l.from
