use Rattle.rbac_reaches.proofs.ordered_rule.OrderedRule.new.Goals as goal

pub invariant_of-result : goal.invariant_of-result
invariant_of-result c = (
  c.in_ok-new.ensures,
  c.in_ok-new-2.ensures,
  c.in_ok-new-3.ensures,
  c.in_ok-sorted_copy.ensures,
  rw c.as_slice.ensures at c.in_ok-subresources_of.ensures,
  rw c.as_slice-2.ensures at c.in_ok-url_prefixes_of.ensures,
)
