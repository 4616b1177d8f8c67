use Rattle.rbac_lint.proofs.StaleRules.{set_start, set_more_taken}
use Rattle.rbac_lint.proofs.rule_set.set_of.Goals as goal

pub loop-rule-init : goal.loop-rule-init
loop-rule-init c = set_start c.new-set.result c.new-set.ensures.empty

pub loop-rule-preserved : goal.loop-rule-preserved
loop-rule-preserved c =
    set_more_taken c.args.rules.now c.loop-rule.rule-index c.rule-item.result c.loop-rule.set c.insert.new.self c.loop-rule-test.true c.rule-item.is
    c.in_ok-insert.ensures.updates.0 c.loop-rule.invariant
