use Rattle.std.proofs.Common.{arith, sym}
use Rattle.std.proofs.lemmas.Grind.{common_steps, flat_map-append}
use Rattle.std.proofs.lemmas.List.{append-nil, take_all}
use Rattle.rbac_lists.proofs.naming.put_of_rules.Goals as goal

pub loop-rule-init : goal.loop-rule-init
loop-rule-init g c = sym (append-nil _)

pub loop-rule-preserved : goal.loop-rule-preserved
loop-rule-preserved g c = grind (arith, common_steps, flat_map-append)

pub returns : goal.returns
returns g c = rw (take_all c.loop-rule.rule-index c.args.rules.now c.loop-rule-test.false) at c.loop-rule.invariant
