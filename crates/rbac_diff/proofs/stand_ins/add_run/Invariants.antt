use Rattle.rbac_diff.specs.StandIns.{AddsRulesIn}
use Rattle.rbac_diff.proofs.stand_ins.add_run.Given as goal

abbrev pub invariant-loop-no : goal.invariant-loop-no
invariant-loop-no l = AddsRulesIn l.policy l.start l.no l.fn.rules.items l.rules.items
