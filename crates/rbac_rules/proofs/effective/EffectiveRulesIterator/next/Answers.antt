use Rattle.std.proofs.Common.{refl}
use Rattle.rbac_rules.proofs.Running.{one_fewer, taken, none_after}
use Rattle.rbac_rules.proofs.effective.EffectiveRulesIterator.next.Goals as goal

pub returns-in_err-run-clause-steps : goal.returns-in_err-run-clause-steps
returns-in_err-run-clause-steps c =
    rw (c.from_residual.ensures, ← c.self.view_is) (none_after c.self.inside.policy.now c.self.inside.who.now c.self.inside.scope.now c.in_err-run.ensures.policy c.self.inside.run c.self.invariant c.in_err-run.ensures.next, refl)

pub invariant_of-self : goal.invariant_of-self
invariant_of-self c =
    one_fewer c.self.inside.policy.now c.self.inside.who.now c.self.inside.scope.now c.in_ok-run.ensures.policy c.self.inside.run c.self.invariant c.in_ok-run.run' c.in_ok-run.ensures.next

pub returns-clause-steps : goal.returns-clause-steps
returns-clause-steps c =
    rw (← c.self.view_is) (taken c.self.inside.policy.now c.self.inside.who.now c.self.inside.scope.now c.in_ok-run.ensures.policy c.self.inside.run c.self.invariant c.in_ok-run.run' c.in_ok-run.ensures.next _ c.grant-grant.ensures.grant c.grant-grant.ensures.binding refl)
