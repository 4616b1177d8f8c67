use Rattle.std.proofs.Common.{◌≤◌, vec_len, take, All}
use Rattle.std.specs.Prelude.{IsSome}
use Rattle.rbac_model.specs.Policies.{AreGrantsOf, grant_at, grants_at}
use Rattle.rbac_model.proofs.grants.grants_of.Given as goal

abbrev pub invariant-loop-at : goal.invariant-loop-at
invariant-loop-at l = record {
  are : AreGrantsOf l.objects (take l.at l.bindings) (grants_at l.objects l.grants.items);
  held : All (λ g. IsSome (grant_at l.objects g)) l.grants.items;
  few : vec_len l.grants ≤ 1000000;
}
