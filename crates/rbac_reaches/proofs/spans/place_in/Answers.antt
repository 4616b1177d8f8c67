use Rattle.std.proofs.Common.{rules, leb, arith}
use Rattle.std.proofs.lemmas.List.Sorted.{IsPartitionedBy-leb, IsPartitionPoint-from_clause}
use Rattle.rbac_reaches.specs.declared.spans.Span.{Span}
use Rattle.rbac_reaches.proofs.SpanLemmas.{befores_rise, some_before, begun, place_small, place_found}
use Rattle.rbac_reaches.proofs.spans.place_in.Goals as goal

pub overflow_sub-span : goal.overflow_sub-span
overflow_sub-span c =
    let xs = c.args.spans.now in
    let at = c.partition_point-at.result in
    let point = IsPartitionPoint-from_clause (λ (s : Span). leb s.before c.args.i) xs at c.partition_point-at.ensures.partitioned (IsPartitionedBy-leb (λ (s : Span). s.before) xs c.args.i (befores_rise 0 xs c.args.len c.requires.counted)) (search rules) in
    some_before xs c.args.len c.args.i at c.requires.counted c.requires.within point c.partition_point-at.ensures.bound

pub overflow_sub-result : goal.overflow_sub-result
overflow_sub-result c =
    let xs = c.args.spans.now in
    let at = c.partition_point-at.result in
    let point = IsPartitionPoint-from_clause (λ (s : Span). leb s.before c.args.i) xs at c.partition_point-at.ensures.partitioned (IsPartitionedBy-leb (λ (s : Span). s.before) xs c.args.i (befores_rise 0 xs c.args.len c.requires.counted)) (search rules) in
    begun xs c.args.len c.args.i at c.requires.counted c.requires.within point c.partition_point-at.ensures.bound _

pub overflow_add-result : goal.overflow_add-result
overflow_add-result c =
    let xs = c.args.spans.now in
    let at = c.partition_point-at.result in
    let point = IsPartitionPoint-from_clause (λ (s : Span). leb s.before c.args.i) xs at c.partition_point-at.ensures.partitioned (IsPartitionedBy-leb (λ (s : Span). s.before) xs c.args.i (befores_rise 0 xs c.args.len c.requires.counted)) (search rules) in
    let small = place_small xs c.args.len c.args.i at c.requires.counted c.requires.within point c.partition_point-at.ensures.bound (record { start = 0; end = 0; before = 0 }) in
    omega (arith, small)

pub returns : goal.returns
returns c =
    let xs = c.args.spans.now in
    let at = c.partition_point-at.result in
    let point = IsPartitionPoint-from_clause (λ (s : Span). leb s.before c.args.i) xs at c.partition_point-at.ensures.partitioned (IsPartitionedBy-leb (λ (s : Span). s.before) xs c.args.i (befores_rise 0 xs c.args.len c.requires.counted)) (search rules) in
    place_found xs c.args.len c.args.i at c.requires.counted c.requires.within point c.partition_point-at.ensures.bound (record { start = 0; end = 0; before = 0 })
