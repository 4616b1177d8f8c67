use Rattle.std.proofs.Common.{arith, refl, subst, sym}
use Rattle.rbac_model.specs.Sources.{grant_of}
use Rattle.rbac_paths.specs.Aims.{Serves, aim_of}
use Rattle.rbac_paths.specs.Having.{HoldingView}
use Rattle.rbac_paths.proofs.Reasons.{none_in, none_more_in}
use Rattle.rbac_paths.proofs.reason.first_in_run.Goals as goal

pub loop-no-init : goal.loop-no-init
loop-no-init c = none_in c.args.policy.now (aim_of c.args.aim) c.args.start

pub loop-no-preserved : goal.loop-no-preserved
loop-no-preserved c =
    none_more_in c.args.policy.now (aim_of c.args.aim) c.args.start c.loop-no.no (grant_of c.grant.result) c.grant.ensures.grant
    (λ serves. (let both = c.if-is_served_by.ensures.1 (subst (λ (h : HoldingView). Serves (aim_of c.args.aim) h.home h.rule) (sym c.by.ensures) serves) in cc)) c.loop-no.invariant

pub returns-then-is_served_by : goal.returns-then-is_served_by
returns-then-is_served_by c = (
  grant_of c.grant.result,
  c.loop-no.auto.no,
  c.loop-no-test.true,
  c.grant.ensures.grant,
  subst (λ (h : HoldingView). Serves (aim_of c.args.aim) h.home h.rule) c.by.ensures (c.if-is_served_by.ensures.0 refl),
  c.loop-no.invariant,
)

pub returns : goal.returns
returns c = λ k g low high here serves. c.loop-no.invariant k g low (let end = c.loop-no-test.false in omega (arith, high, end)) here serves
