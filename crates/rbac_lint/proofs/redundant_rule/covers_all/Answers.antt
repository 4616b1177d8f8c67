use Rattle.rbac_covering.specs.Covering.{CoversAll}
use Rattle.rbac_lint.proofs.redundant_rule.covers_all.Goals as goal

pub returns : goal.returns
unfolding CoversAll
returns c = rw c.rule.ensures at c.covers.ensures.all
