use Rattle.std.proofs.Common.{rules}
use Rattle.std.specs.Ordering.{is_lt}
use Rattle.std.proofs.lemmas.List.Sorted.{IsPartitionPoint-from_clause}
use Rattle.rbac_terms.specs.declared.granting.Binding.{Binding}
use Rattle.rbac_subjects.specs.Living.{namespace_cmp}
use Rattle.rbac_subjects.proofs.LivingLemmas.{before_first, parted_before}
use Rattle.rbac_subjects.proofs.live_bindings.first_from.Goals as goal

pub returns : goal.returns
returns c =
    let xs = c.args.bindings.now in
    let asked = c.args.namespace.now in
    before_first xs asked c.partition_point.result
    (IsPartitionPoint-from_clause (λ (b : Binding). is_lt (namespace_cmp b.namespace asked)) xs c.partition_point.result c.partition_point.ensures.partitioned (parted_before xs c.requires asked) (λ a r f k. search rules))
