use Rattle.std.proofs.Common.{rules, subst}
use Rattle.std.specs.Prelude.{Option}
use Rattle.rbac_reaches.specs.Matched.{IsBetween}
use Rattle.std.specs.Ordering.{is_le}
use Rattle.std.specs.List.Sorted.{IsSorted}
use Rattle.std.proofs.lemmas.List.Sorted.{IsPartitionPoint-from_clause, Contains-permutation}
use Rattle.rbac_terms.specs.Text.{Text, text_cmp}
use Rattle.rbac_reaches.proofs.StemLemmas.{got_copied, none_between, parted_names}
use Rattle.rbac_reaches.proofs.ordered_rule.OrderedRule.next_name.Goals as goal

pub returns : goal.returns
returns c =
    let names = c.as_slice-names.result.now in
    let asked = c.args.name.now in
    let sorted : IsSorted text_cmp names = rw c.as_slice-names.ensures.value c.self.invariant.3.0 in
    let parted = IsPartitionPoint-from_clause (λ (y : Text). is_le (text_cmp y asked)) names c.partition_point.result c.partition_point.ensures.partitioned (parted_names names sorted asked) (λ a r f k. search rules) in
    rw (← c.self.view_is) (λ x has between. none_between names sorted asked c.partition_point.result parted x
    (rw c.as_slice-names.ensures.value (Contains-permutation c.self.inside.rule.now.resource_names c.self.inside.names.items x c.self.invariant.3.1 has)) (subst (λ (o : Option Text). IsBetween asked o x) (got_copied names c.partition_point.result c.get.result c.get.ensures.lookup) between))
