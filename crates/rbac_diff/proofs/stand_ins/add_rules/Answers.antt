use Rattle.rbac_diff.proofs.BoundRules.{run_more, runs_end}
use Rattle.rbac_diff.proofs.stand_ins.add_rules.Goals as goal

pub loop-start-preserved : goal.loop-start-preserved
loop-start-preserved c = run_more c.args.policy.now c.args.principal.now c.args.namespace.now c.loop-start.from c.in-Some.start c.in-Some.end c.args.rules.now.items c.loop-start.rules.items c.add_run.new.rules.items (rw (← c.requires) c.in-Some.ensures) c.loop-start.invariant c.in_ok-add_run.ensures

pub returns : goal.returns
returns c = runs_end c.args.policy.now c.args.principal.now c.args.namespace.now c.loop-start.from c.args.rules.now.items c.loop-start.rules.items (rw (← c.requires) c.in_default.ensures) c.loop-start.invariant
