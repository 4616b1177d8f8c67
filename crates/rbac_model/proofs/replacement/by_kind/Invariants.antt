use Rattle.std.proofs.Common.{◌≡◌}
use Rattle.std.specs.List.{filter_map}
use Rattle.rbac_model.specs.Kept.{as_role, as_cluster_role, as_binding}
use Rattle.rbac_model.proofs.replacement.by_kind.Given as goal

abbrev pub invariant-loop-object : goal.invariant-loop-object
invariant-loop-object l = record {
  roles : l.kinds.roles.items ≡ filter_map as_role l.yielded;
  cluster_roles : l.kinds.cluster_roles.items ≡ filter_map as_cluster_role l.yielded;
  bindings : l.kinds.bindings.items ≡ filter_map as_binding l.yielded;
}
