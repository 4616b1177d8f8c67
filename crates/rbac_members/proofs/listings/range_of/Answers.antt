use Rattle.std.proofs.Common.{rules}
use Rattle.std.specs.Ordering.{is_lt, is_le}
use Rattle.std.proofs.lemmas.List.Sorted.{IsPartitionPoint-from_clause}
use Rattle.rbac_terms.specs.Text.{text_cmp}
use Rattle.rbac_members.specs.Listings.{ListingView}
use Rattle.rbac_members.proofs.GroupPlaces.{parted_before, parted_upto, between_points, in_turn}
use Rattle.rbac_members.proofs.listings.range_of.Goals as goal

pub returns-clause-between : goal.returns-clause-between
returns-clause-between c =
    let ls = c.args.listings.now in
    let group = c.args.group.now in
    between_points ls group c.partition_point.result c.partition_point-2.result
    (IsPartitionPoint-from_clause (λ (l : ListingView). is_lt (text_cmp l.group group)) ls c.partition_point.result c.partition_point.ensures.partitioned (parted_before ls c.requires group) (λ a r f k. search rules))
    (IsPartitionPoint-from_clause (λ (l : ListingView). is_le (text_cmp l.group group)) ls c.partition_point-2.result c.partition_point-2.ensures.partitioned (parted_upto ls c.requires group) (λ a r f k. search rules))

pub returns-clause-ordered : goal.returns-clause-ordered
returns-clause-ordered c =
    let ls = c.args.listings.now in
    let group = c.args.group.now in
    in_turn ls group c.partition_point.result c.partition_point-2.result
    (IsPartitionPoint-from_clause (λ (l : ListingView). is_lt (text_cmp l.group group)) ls c.partition_point.result c.partition_point.ensures.partitioned (parted_before ls c.requires group) (λ a r f k. search rules))
    (IsPartitionPoint-from_clause (λ (l : ListingView). is_le (text_cmp l.group group)) ls c.partition_point-2.result c.partition_point-2.ensures.partitioned (parted_upto ls c.requires group) (λ a r f k. search rules))
    c.partition_point.ensures.bound
