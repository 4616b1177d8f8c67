use Rattle.std.proofs.Common.{rules}
use Rattle.std.specs.Prelude.{is_none}
use Rattle.std.proofs.lemmas.List.Sorted.{IsPartitionPoint-from_clause}
use Rattle.rbac_terms.specs.declared.granting.Binding.{Binding}
use Rattle.rbac_subjects.proofs.LivingLemmas.{parted_by_kind, cluster_first}
use Rattle.rbac_subjects.proofs.live_bindings.cluster_wide.Goals as goal

pub returns-clause-first : goal.returns-clause-first
returns-clause-first c =
    let xs = c.args.bindings.now in
    cluster_first xs c.partition_point.result
    (IsPartitionPoint-from_clause (λ (b : Binding). is_none b.namespace) xs c.partition_point.result c.partition_point.ensures.partitioned (parted_by_kind xs c.requires) (λ a r f k. search rules))
