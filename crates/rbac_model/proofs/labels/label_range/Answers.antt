use Rattle.std.proofs.Common.{rules, List}
use Rattle.std.specs.Ordering.{is_lt, is_le}
use Rattle.std.specs.Option.{option_map}
use Rattle.std.specs.Cmp.Lexicographic.{slice_cmp}
use Rattle.std.proofs.lemmas.List.Sorted.{IsPartitionPoint-from_clause}
use Rattle.rbac_terms.specs.Text.{Text, text_cmp}
use Rattle.rbac_model.specs.Labelled.{LabelEntry, label_texts}
use Rattle.rbac_model.proofs.LabelPlaces.{parted_before, parted_upto, between_points}
use Rattle.rbac_model.proofs.labels.label_range.Goals as goal

pub returns-clause-between : goal.returns-clause-between
returns-clause-between c =
    let xs = c.args.entries.now in
    let asked : List Text = label_texts c.args.key.now (option_map (λ v. v.now) c.args.value) in
    between_points xs asked c.partition_point.result c.partition_point-2.result
    (IsPartitionPoint-from_clause (λ (e : LabelEntry). is_lt (slice_cmp text_cmp e.label asked)) xs c.partition_point.result c.partition_point.ensures.partitioned (parted_before xs c.requires asked) (λ a r f k. search rules))
    (IsPartitionPoint-from_clause (λ (e : LabelEntry). is_le (slice_cmp text_cmp e.label asked)) xs c.partition_point-2.result c.partition_point-2.ensures.partitioned (parted_upto xs c.requires asked) (λ a r f k. search rules))
