use Rattle.std.proofs.Common.{arith}
use Rattle.rbac_paths.specs.Aims.{aim_of}
use Rattle.rbac_paths.proofs.Reasons.{none_at_first, none_left, run_before, run_serves}
use Rattle.rbac_paths.proofs.reason.first_serving.Goals as goal

pub loop-start-init : goal.loop-start-init
loop-start-init c = none_at_first c.args.policy.now (aim_of c.args.aim) c.args.who.now

pub first_in_run-requires-clause-ordered : goal.first_in_run-requires-clause-ordered
first_in_run-requires-clause-ordered c = omega (arith, c.in-Some.ensures.next.some)

pub loop-start-preserved : goal.loop-start-preserved
loop-start-preserved c =
    run_before c.args.policy.now (aim_of c.args.aim) c.args.who.now c.loop-start.from c.in-Some.start c.in-Some.end (rw (← c.requires) c.in-Some.ensures.next) c.loop-start.invariant c.in-Some.end (omega arith)
    c.in_default-first_in_run.ensures

pub loop-start-smaller : goal.loop-start-smaller
loop-start-smaller c =
    let next = c.in-Some.ensures.next in
    let within = rw c.requires at c.in-Some.ensures.within in
    omega (arith, next.after, next.some, within)

pub returns-in-Some-first_in_run : goal.returns-in-Some-first_in_run
returns-in-Some-first_in_run c =
    let e = c.in-Some-first_in_run.ensures in
    run_serves c.args.policy.now (aim_of c.args.aim) c.args.who.now c.loop-start.from c.in-Some.start c.in-Some.end (rw (← c.requires) c.in-Some.ensures.next) c.loop-start.invariant c.in-Some-first_in_run.no
    e.0 e.1 e.2 e.3 e.4 e.5

pub returns : goal.returns
returns c = none_left c.args.policy.now (aim_of c.args.aim) c.args.who.now c.loop-start.from (rw (← c.requires) c.in_default.ensures.next) c.loop-start.invariant
