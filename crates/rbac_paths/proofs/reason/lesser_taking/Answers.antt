use Rattle.std.proofs.Common.{subst, sym}
use Rattle.rbac_model.specs.Sources.{grant_of}
use Rattle.rbac_paths.specs.Having.{HoldingView}
use Rattle.rbac_paths.specs.Told.{HoldingTakes}
use Rattle.rbac_paths.proofs.WhatDecides.{holding_taken, least_new, least_skips, least_stays}
use Rattle.rbac_paths.proofs.reason.lesser_taking.Goals as goal

pub returns-then-not-is_less : goal.returns-then-not-is_less
returns-then-not-is_less c step y numbers asked least =
    least_stays c.args.policy.now step y numbers c.args.no c.args.least (λ less. (let both = c.is_less.ensures.1 less in let not = c.if-not-is_less.true in cc)) least

pub returns-then-some_allowed : goal.returns-then-some_allowed
returns-then-some_allowed c step y numbers asked least =
    let takes = subst (λ (h : HoldingView). HoldingTakes step h y) c.by.ensures ((asked c.by.result).0 (c.some_allowed.ensures.0 c.if-some_allowed.true)) in
    least_new c.args.policy.now step y numbers c.args.no c.args.least (c.is_less.ensures.0 c.if-not-is_less.false) (grant_of c.grant.result, c.grant.ensures.grant, takes) least

pub returns-else-some_allowed : goal.returns-else-some_allowed
returns-else-some_allowed c step y numbers asked least =
    least_skips c.args.policy.now step y numbers c.args.no c.args.least
    (λ takes. (let both = c.some_allowed.ensures.1 ((asked c.by.result).1 (subst (λ (h : HoldingView). HoldingTakes step h y) (sym c.by.ensures) (holding_taken c.args.policy.now step y c.args.no (grant_of c.grant.result) c.grant.ensures.grant takes))) in let not = c.if-some_allowed.false in cc)) least
