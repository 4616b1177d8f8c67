use Rattle.std.proofs.Common.{subst}
use Rattle.rbac_terms.specs.declared.matching.Rule.{Rule}
use Rattle.rbac_covering.specs.Covering.{CoversAll}
use Rattle.rbac_diff.proofs.CoveredWords.{covers_itself}
use Rattle.rbac_diff.proofs.covering.covers_rule.Goals as goal

pub returns-then-same_rule : goal.returns-then-same_rule
returns-then-same_rule c = λ t. subst (λ (r : Rule). CoversAll c.args.rule.now r) (c.same_rule.ensures c.if-same_rule.true) (covers_itself c.args.rule.now)

pub returns : goal.returns
unfolding CoversAll
returns c = λ t. subst (λ (r : Rule). CoversAll r c.args.other.now) c.in_ok-new.ensures (c.covers.ensures.all.0 t)
