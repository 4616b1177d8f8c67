use Rattle.std.proofs.Common.{◌≡◌, arith, false, refl, true}
use Rattle.rbac_model.specs.Sources.{grant_of}
use Rattle.rbac_use.specs.Used.{IsGrantOf}
use Rattle.rbac_use.proofs.Grants.{none_usable, of_number}
use Rattle.rbac_use.proofs.bindings.has_permissions.Goals as goal

pub returns-then-can_be_used : goal.returns-then-can_be_used
returns-then-can_be_used c =
    let p = c.args.policy.now in
    let place = c.args.place in
    let n = c.loop-number.number in
    let g = grant_of c.grant-grant.result in
    let of : IsGrantOf p place n g = of_number p place c.grants_of-from.result.0 c.grants_of-from.result.1 c.grants_of-from.ensures.between n c.grant-grant.result.binding_place g c.loop-number.auto.number c.loop-number-test.true c.grant-grant.ensures.grant c.grant-grant.ensures.binding in
    (λ t. (n, g, of, c.can_be_used.ensures.0 c.if-can_be_used.true), λ w. refl)

pub returns : goal.returns
returns c =
    let p = c.args.policy.now in (
      λ t. absurd (let both : false ≡ true = t in cc),
      λ w. absurd (none_usable p c.args.place c.grants_of-from.result.0 c.grants_of-from.result.1 c.grants_of-from.ensures.between
          (λ k g low high here. c.loop-number.invariant k g low (omega (arith, high, c.loop-number-test.false)) here) w),
    )
