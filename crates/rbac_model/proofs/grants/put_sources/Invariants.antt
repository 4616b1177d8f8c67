use Rattle.std.proofs.Common.{◌≡◌, ◌≤◌, ◌++◌, vec_len, take}
use Rattle.rbac_model.specs.Places.{places_in}
use Rattle.rbac_model.proofs.grants.put_sources.Given as goal

abbrev pub invariant-loop-role : goal.invariant-loop-role
invariant-loop-role l = record {
  items : l.grants.items ≡ l.initial.grants.items ++ places_in l.objects l.binding (take l.role-index l.sources);
  few : vec_len l.grants ≤ 1000000;
}
