use Rattle.std.proofs.Common.{rules}
use Rattle.std.specs.Ordering.{is_le}
use Rattle.std.proofs.lemmas.List.Sorted.{IsPartitionPoint-from_clause}
use Rattle.rbac_terms.specs.declared.granting.Binding.{Binding}
use Rattle.rbac_subjects.specs.Living.{namespace_cmp}
use Rattle.rbac_subjects.proofs.LivingLemmas.{parted_upto, between_points}
use Rattle.rbac_subjects.proofs.live_bindings.of_namespace.Goals as goal

pub returns-clause-between : goal.returns-clause-between
returns-clause-between c =
    let xs = c.args.bindings.now in
    let asked = c.args.namespace.now in
    between_points xs asked c.first_from.result c.partition_point.result c.first_from.ensures
    (IsPartitionPoint-from_clause (λ (b : Binding). is_le (namespace_cmp b.namespace asked)) xs c.partition_point.result c.partition_point.ensures.partitioned (parted_upto xs c.requires asked) (λ a r f k. search rules))
