use Rattle.rbac_rules.specs.Runs.{HasNone}
use Rattle.rbac_rules.proofs.run.next_run.Given as goal

abbrev pub invariant-loop-place : goal.invariant-loop-place
invariant-loop-place l = HasNone l.policy l.who l.scope l.fn.run.next_place l.place
