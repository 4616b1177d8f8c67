use Rattle.std.proofs.Common.{List, length, subst}
use Rattle.rbac_index.specs.declared.rule_rows.Written.{Written}
use Rattle.rbac_index.specs.RuleLists.{AreListed}
use Rattle.rbac_index.specs.Written.{bare_rules}
use Rattle.rbac_index.proofs.rule_lists.listed_rules.Goals as goal

pub returns-clause-listed : goal.returns-clause-listed
returns-clause-listed c = subst (λ (ws : List Written). AreListed (bare_rules ws) (length ws) c.in_ok-lists.lists) c.as_slice.ensures.value c.in_ok-lists.ensures
