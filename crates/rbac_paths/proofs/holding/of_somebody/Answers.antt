use Rattle.std.proofs.Common.{arith}
use Rattle.rbac_paths.proofs.GivenGrants.{all_given, none_before, run_given}
use Rattle.rbac_paths.proofs.holding.of_somebody.Goals as goal

pub loop-start-init : goal.loop-start-init
loop-start-init c = none_before c.args.policy.now c.args.who.now c.new-holdings.result.items c.new-holdings.ensures.items

pub push_grants-requires-clause-ordered : goal.push_grants-requires-clause-ordered
push_grants-requires-clause-ordered c = omega (arith, c.in-Some.ensures.next.some)

pub loop-start-preserved : goal.loop-start-preserved
loop-start-preserved c =
    run_given c.args.policy.now c.args.who.now c.loop-start.from c.in-Some.start c.in-Some.end c.loop-start.holdings.items c.push_grants.new.holdings.items
    (rw (← c.requires) c.in-Some.ensures.next) c.loop-start.invariant c.in_ok-push_grants.ensures

pub loop-start-smaller : goal.loop-start-smaller
loop-start-smaller c =
    let next = c.in-Some.ensures.next in
    let within = rw c.requires at c.in-Some.ensures.within in
    omega (arith, next.after, next.some, within)

pub returns : goal.returns
returns c = all_given c.args.policy.now c.args.who.now c.loop-start.from c.loop-start.holdings.items (rw (← c.requires) c.in_default.ensures.next) c.loop-start.invariant
