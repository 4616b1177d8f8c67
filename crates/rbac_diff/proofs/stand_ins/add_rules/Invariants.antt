use Rattle.std.proofs.Common.{◌-◌, length}
use Rattle.rbac_diff.specs.StandIns.{AddsRules}
use Rattle.rbac_diff.proofs.stand_ins.add_rules.Given as goal

abbrev pub invariant-loop-start : goal.invariant-loop-start
invariant-loop-start l = AddsRules l.policy l.principal l.namespace l.from l.fn.rules.items l.rules.items

abbrev pub decreases-loop-start : goal.decreases-loop-start
decreases-loop-start l = length l.policy.grants - l.from
