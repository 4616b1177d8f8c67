use Rattle.std.proofs.Common.{◌≡◌, [], replicate}
use Rattle.rbac_index.proofs.starts.no_starts.Given as goal

abbrev pub invariant-loop : goal.invariant-loop
invariant-loop l = l.starts.items ≡ replicate l.counter []
