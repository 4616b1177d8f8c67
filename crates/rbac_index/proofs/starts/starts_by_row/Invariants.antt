use Rattle.std.proofs.Common.{length, ◌-◌, ◌≤◌}
use Rattle.rbac_index.specs.Written.{written_rules}
use Rattle.rbac_index.specs.Indexed.{AreStarts}
use Rattle.rbac_index.proofs.RunLemmas.{BeginsRun}
use Rattle.rbac_index.proofs.starts.starts_by_row.Given as goal

-- the runs before the number are listed, and the next begins there
abbrev pub invariant-loop-no : goal.invariant-loop-no
invariant-loop-no l = record {
  starts : AreStarts l.policy (written_rules l.policy.held) l.no l.starts.items;
  begins : BeginsRun l.policy.grants l.no;
  within : l.no ≤ length l.policy.grants;
}

abbrev pub decreases-loop-no : goal.decreases-loop-no
decreases-loop-no l = length l.policy.grants - l.no
