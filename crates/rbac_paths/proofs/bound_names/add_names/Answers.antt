use Rattle.std.proofs.Common.{arith}
use Rattle.rbac_paths.specs.BoundNames.{BindsNamed}
use Rattle.rbac_paths.proofs.WordsAdded.{adds_each, adds_more}
use Rattle.rbac_paths.proofs.bound_names.add_names.Goals as goal

pub loop-rule-preserved : goal.loop-rule-preserved
loop-rule-preserved c =
    adds_more (λ rule name. BindsNamed rule name) c.args.rules.now c.loop-rule.rule-index c.rule-item.result c.args.names.now.items c.loop-rule.names.items c.add_of_rule.new.names.items
    c.loop-rule-test.true c.rule-item.is c.loop-rule.invariant c.in_ok-add_of_rule.ensures

pub returns : goal.returns
returns c =
    adds_each (λ rule name. BindsNamed rule name) c.args.rules.now c.loop-rule.rule-index c.args.names.now.items c.loop-rule.names.items
    (let end = c.loop-rule-test.false in omega (arith, end)) c.loop-rule.invariant
