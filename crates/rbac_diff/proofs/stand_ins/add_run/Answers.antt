use Rattle.std.proofs.Common.{arith, ◌≡◌, subst, refl}
use Rattle.rbac_model.specs.Sources.{grant_of}
use Rattle.rbac_diff.specs.StandIns.{AddsRulesIn}
use Rattle.rbac_diff.proofs.BoundRules.{one_more_in}
use Rattle.rbac_diff.proofs.stand_ins.add_run.Goals as goal

pub loop-no-preserved : goal.loop-no-preserved
loop-no-preserved c = one_more_in c.args.policy.now c.args.start c.loop-no.no (grant_of c.grant.result) c.grant.result.rule c.args.rules.now.items c.loop-no.rules.items c.push.new.self.items c.loop-no.auto.no c.grant.ensures.grant refl c.in_ok-push.ensures.items c.loop-no.invariant

pub returns : goal.returns
returns c =
    let end : c.loop-no.no ≡ c.args.end = omega (arith, c.loop-no.auto.no-end, c.loop-no-test.false, c.requires.ordered) in
    subst (λ n. AddsRulesIn c.args.policy.now c.args.start n c.args.rules.now.items c.loop-no.rules.items) end c.loop-no.invariant
