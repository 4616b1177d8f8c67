use Rattle.rbac_lists.proofs.WideLemmas.{few_named}
use Rattle.rbac_lists.proofs.wide.is_wide.Goals as goal

pub returns-then-product-le-MOST_TARGETS : goal.returns-then-product-le-MOST_TARGETS
returns-then-product-le-MOST_TARGETS c =
    few_named c.args.rule.now (rw (c.product.ensures, c.as_slice-groups.ensures, c.as_slice-words.ensures) at c.if-product-le-MOST_TARGETS.true)
