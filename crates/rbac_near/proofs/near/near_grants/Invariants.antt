use Rattle.std.proofs.Common.{◌≡◌, ◌++◌}
use Rattle.rbac_near.proofs.AllNear.{near_in}
use Rattle.rbac_near.proofs.near.near_grants.Given as goal

abbrev pub invariant-loop-near : goal.invariant-loop-near
invariant-loop-near l = l.found.items ++ near_in l.near-iterator ≡ l.initial.found.items ++ near_in l.initial.near-iterator
