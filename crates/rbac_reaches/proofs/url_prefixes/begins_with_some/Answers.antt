use Rattle.std.proofs.Common.{rules}
use Rattle.std.proofs.lemmas.List.Sorted.{IsPartitionPoint-from_clause}
use Rattle.std.specs.Ordering.{is_le}
use Rattle.rbac_terms.specs.Text.{Text, text_cmp}
use Rattle.rbac_reaches.proofs.PrefixLemmas.{last_begins, last_tells, parted_apart}
use Rattle.rbac_reaches.proofs.WildcardLemmas.{begins_iff}
use Rattle.rbac_reaches.proofs.url_prefixes.begins_with_some.Goals as goal

pub returns-in-Some : goal.returns-in-Some
returns-in-Some c =
    let prefixes = c.args.prefixes.now in
    let path = c.args.path.now in
    let count = c.partition_point-count.result in
    let point = IsPartitionPoint-from_clause (λ (y : Text). is_le (text_cmp y path)) prefixes count c.partition_point-count.ensures.partitioned (parted_apart prefixes path c.requires) (λ a r f k. search rules) in
    last_tells prefixes path c.requires count c.in-Some.last c.index-prefixes-last.result c.starts_with.result point c.partition_point-count.ensures.bound c.in-Some.ensures c.index-prefixes-last.is
    (rw c.starts_with.ensures (begins_iff path c.index-prefixes-last.result))

pub returns-in-None : goal.returns-in-None
returns-in-None c =
    let prefixes = c.args.prefixes.now in
    let path = c.args.path.now in
    let count = c.partition_point-count.result in
    let point = IsPartitionPoint-from_clause (λ (y : Text). is_le (text_cmp y path)) prefixes count c.partition_point-count.ensures.partitioned (parted_apart prefixes path c.requires) (λ a r f k. search rules) in
    (λ h. cc, λ a. absurd (c.in-None.ensures (last_begins prefixes path c.requires count point c.partition_point-count.ensures.bound a).0))
