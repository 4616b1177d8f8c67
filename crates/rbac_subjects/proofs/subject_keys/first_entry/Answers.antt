use Rattle.std.proofs.Common.{rules}
use Rattle.std.proofs.lemmas.List.Sorted.{IsPartitionPoint-from_clause}
use Rattle.rbac_subjects.proofs.KeyedLemmas.{before, parted_before_key}
use Rattle.rbac_subjects.proofs.subject_keys.first_entry.Goals as goal

pub returns-clause-first : goal.returns-clause-first
returns-clause-first c =
    let xs = c.args.entries.now in
    let key = c.args.key.now in
    IsPartitionPoint-from_clause (before xs c.requires key c.args.place) xs c.partition_point.result c.partition_point.ensures.partitioned (parted_before_key xs c.requires key c.args.place) (λ a r f k. search rules)
