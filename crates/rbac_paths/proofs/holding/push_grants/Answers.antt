use Rattle.std.proofs.Common.{◌≡◌, arith, subst}
use Rattle.rbac_model.specs.Sources.{grant_of}
use Rattle.rbac_paths.specs.Told.{AddsGiven}
use Rattle.rbac_paths.proofs.GivenGrants.{none_given, one_given}
use Rattle.rbac_paths.proofs.holding.push_grants.Goals as goal

pub loop-no-init : goal.loop-no-init
loop-no-init c = none_given c.args.policy.now c.args.start c.args.holdings.now.items

pub loop-no-preserved : goal.loop-no-preserved
loop-no-preserved c =
    one_given c.args.policy.now c.args.start c.loop-no.no (grant_of c.grant.result) c.args.holdings.now.items c.loop-no.holdings.items c.push.new.self.items
    c.loop-no.auto.no c.grant.ensures.grant (rw (← c.by.ensures) c.in_ok-push.ensures.items) c.loop-no.invariant

pub returns : goal.returns
returns c =
    let end : c.loop-no.no ≡ c.args.end = omega (arith, c.loop-no.auto.no-end, c.loop-no-test.false, c.requires.ordered) in
    subst (λ n. AddsGiven c.args.policy.now c.args.start n c.args.holdings.now.items c.loop-no.holdings.items) end c.loop-no.invariant
