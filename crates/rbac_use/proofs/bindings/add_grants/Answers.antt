use Rattle.std.proofs.Common.{[], ◌∷◌}
use Rattle.rbac_model.specs.Sources.{grant_of}
use Rattle.rbac_use.specs.Adding.{AddsLines}
use Rattle.rbac_use.specs.Rules.{IsGrantLine}
use Rattle.rbac_use.specs.Used.{IsGrantOf}
use Rattle.rbac_use.proofs.Grants.{of_number}
use Rattle.rbac_use.proofs.Places.{more_at}
use Rattle.rbac_use.proofs.RuleLines.{grant_stands, lines_of_grant, no_earlier, no_later}
use Rattle.rbac_use.proofs.bindings.add_grants.Goals as goal

pub loop-number-init : goal.loop-number-init
loop-number-init c = no_earlier c.args.policy.now c.args.place c.args.asked.now c.grants_of-from.result.0 c.grants_of-from.result.1 c.grants_of-from.ensures.between c.args.found.now.items

pub loop-number-preserved : goal.loop-number-preserved
loop-number-preserved c =
    let p = c.args.policy.now in
    let place = c.args.place in
    let asked = c.args.asked.now in
    let n = c.loop-number.number in
    let g = grant_of c.grant-grant.result in
    let old = c.loop-number.found.items in
    let new = c.add_of_rule.new.found.items in
    let of : IsGrantOf p place n g = of_number p place c.grants_of-from.result.0 c.grants_of-from.result.1 c.grants_of-from.ensures.between n c.grant-grant.result.binding_place g c.loop-number.auto.number c.loop-number-test.true c.grant-grant.ensures.grant c.grant-grant.ensures.binding in
    let added : AddsLines (IsGrantLine p place asked n) old new = lines_of_grant p place asked n g old new of c.in_ok-add_of_rule.ensures in
    more_at (place ∷ 1 ∷ []) (IsGrantLine p place asked) (grant_stands p place asked) n c.args.found.now.items old new c.loop-number.invariant added

pub returns : goal.returns
returns c =
    no_later c.args.policy.now c.args.place c.args.asked.now c.grants_of-from.result.0 c.grants_of-from.result.1 c.grants_of-from.ensures.between c.loop-number.number c.args.found.now.items c.loop-number.found.items c.loop-number-test.false c.loop-number.invariant
