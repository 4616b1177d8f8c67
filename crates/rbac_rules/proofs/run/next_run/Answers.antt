use Rattle.std.proofs.Common.{arith, ap, length}
use Rattle.std.specs.Prelude.{Some, None}
use Rattle.rbac_rules.proofs.Running.{next_from, none_more}
use Rattle.rbac_rules.proofs.run.next_run.Goals as goal

pub loop-place-preserved : goal.loop-place-preserved
loop-place-preserved c = none_more c.args.policy.now c.args.who.now c.args.scope.now c.args.run.next_place c.loop-place.place c.loop-place.invariant c.in_default.ensures.run

pub returns-in-Some-clause-next : goal.returns-in-Some-clause-next
returns-in-Some-clause-next c =
    next_from c.args.policy.now c.args.who.now c.args.scope.now c.bindings-places.ensures.policy c.args.run c.requires (Some c.in-Some.next) (omega (arith, c.if-run.false)) (c.loop-place.place, c.loop-place.auto.place, c.in-Some.ensures.run, c.loop-place.invariant)

pub returns-clause-next : goal.returns-clause-next
returns-clause-next c =
    next_from c.args.policy.now c.args.who.now c.args.scope.now c.bindings-places.ensures.policy c.args.run c.requires None c.if-run.false (λ n at low high has. c.loop-place.invariant n at low (omega (arith, c.loop-place-test.false, ap length c.bindings-places.ensures.bindings)) has)
