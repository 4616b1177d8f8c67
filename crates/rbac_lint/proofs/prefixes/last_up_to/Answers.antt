use Rattle.std.proofs.Common.{rules}
use Rattle.std.proofs.lemmas.List.Sorted.{IsPartitionPoint-from_clause}
use Rattle.rbac_lint.proofs.Linked.{up_to, parted_up_to, point_leads}
use Rattle.rbac_lint.proofs.prefixes.last_up_to.Goals as goal

pub returns-clause-leads : goal.returns-clause-leads
returns-clause-leads c =
    let prefixes = c.args.prefixes.now in
    let text = c.args.text.now in
    let at = c.partition_point-count.result in
    let point = IsPartitionPoint-from_clause (up_to text) prefixes at c.partition_point-count.ensures.partitioned (parted_up_to prefixes text c.requires) (λ a r f k. search rules) in
    point_leads prefixes text at c.checked_sub.result c.requires point c.partition_point-count.ensures.bound c.checked_sub.ensures
