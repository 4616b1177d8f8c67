use Rattle.std.proofs.Common.{arith}
use Rattle.rbac_index.proofs.DecidingLemmas.{widened, none_more}
use Rattle.rbac_index.proofs.deciding.first_among.Goals as goal

pub returns-in-Some : goal.returns-in-Some
returns-in-Some c =
    widened c.args.policy.now c.args.principal.now c.args.verb.now c.args.target.now c.by_binding.ensures.policy c.args.from c.loop-place.place c.args.to c.in-Some.why c.loop-place.auto.place c.loop-place-test.true c.loop-place.invariant c.in-Some.ensures.why

pub loop-place-preserved : goal.loop-place-preserved
loop-place-preserved c =
    none_more c.args.policy.now c.args.principal.now c.args.verb.now c.args.target.now c.args.from c.loop-place.place c.loop-place.invariant c.in_default.ensures.why

pub returns : goal.returns
returns c = λ at n low high. c.loop-place.invariant at n low (omega (arith, c.loop-place-test.false))
