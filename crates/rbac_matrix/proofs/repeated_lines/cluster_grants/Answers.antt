use Rattle.std.proofs.Common.{arith, rules, sym}
use Rattle.std.specs.Prelude.{is_none}
use Rattle.std.proofs.lemmas.List.Sorted.{IsPartitionPoint-from_clause}
use Rattle.rbac_terms.specs.declared.granting.Binding.{Binding}
use Rattle.rbac_subjects.proofs.LivingLemmas.{parted_by_kind}
use Rattle.rbac_matrix.proofs.RepeatedLemmas.{cluster_below}
use Rattle.rbac_matrix.proofs.repeated_lines.cluster_grants.Goals as goal

pub returns : goal.returns
returns c =
    let p = c.policy-policy.result.now in
    let xs = c.bindings-bindings.result.now in
    let parted = IsPartitionPoint-from_clause (λ (b : Binding). is_none b.namespace) xs c.partition_point-count.result c.partition_point-count.ensures.partitioned (parted_by_kind xs (rw c.bindings-bindings.ensures.bindings c.bindings-bindings.ensures.policy.0.bindings)) (λ a r f k. search rules) in
    rw (sym c.policy-policy.ensures) (cluster_below p c.bindings-bindings.ensures.policy c.partition_point-count.result c.grants_of-end.result.1 (rw (sym c.bindings-bindings.ensures.bindings) parted) (omega (arith, c.if-count-eq0.false)) c.grants_of-end.ensures.upto)
