use Rattle.std.proofs.Common.{◌≡◌, Some, arith, false, refl, slice_get, subst, sym, true}
use Rattle.std.proofs.lemmas.Bool.{both_ways}
use Rattle.std.proofs.lemmas.Option.{slice_get_read}
use Rattle.rbac_terms.specs.declared.granting.Binding.{Binding}
use Rattle.rbac_model.specs.Sources.{grant_of}
use Rattle.rbac_use.specs.Requests.{request_of}
use Rattle.rbac_use.specs.Used.{CountsFor, IsGrantOf}
use Rattle.rbac_use.proofs.Grants.{none_allows, not_counting, of_number, own_binding}
use Rattle.rbac_use.proofs.next_binding.allows_at.Goals as goal

pub returns-then-not-is_live : goal.returns-then-not-is_live
returns-then-not-is_live c =
    let p = c.args.policy.now in
    let b = c.index-bindings-place.result in
    let there : slice_get p.held.bindings c.args.place ≡ Some b = slice_get_read _ _ _ _ refl c.requires.place (rw c.bindings.ensures.bindings at c.index-bindings-place.is) in (
      λ t. absurd (let both : false ≡ true = t in cc),
      λ w. absurd (not_counting p c.args.place b (request_of c.args.request) there (λ counts. both_ways _ c.if-not-is_live.true (c.is_live.ensures.1 counts.0)) w),
    )

pub returns-then-rule_allows : goal.returns-then-rule_allows
returns-then-rule_allows c =
    let p = c.args.policy.now in
    let place = c.args.place in
    let r = request_of c.args.request in
    let b = c.index-bindings-place.result in
    let there : slice_get p.held.bindings place ≡ Some b = slice_get_read _ _ _ _ refl c.requires.place (rw c.bindings.ensures.bindings at c.index-bindings-place.is) in
    let n = c.loop-number.number in
    let g = grant_of c.grant.result in
    let of : IsGrantOf p place n g = of_number p place c.grants_of-from.result.0 c.grants_of-from.result.1 c.grants_of-from.ensures.between n c.grant.result.binding_place g c.loop-number.auto.number c.loop-number-test.true c.grant.ensures.grant c.grant.ensures.binding in
    let counts : CountsFor g.binding r = subst (λ (v : Binding). CountsFor v r) (sym (own_binding p place n g b of there)) (c.is_live.ensures.0 c.if-not-is_live.false, c.requires.named b there) in
    (λ t. (n, g, of, (counts, c.rule_allows.ensures.0 c.if-rule_allows.true)), λ w. refl)

pub returns : goal.returns
returns c =
    let p = c.args.policy.now in (
      λ t. absurd (let both : false ≡ true = t in cc),
      λ w. absurd (none_allows p c.args.place c.grants_of-from.result.0 c.grants_of-from.result.1 c.grants_of-from.ensures.between (request_of c.args.request)
          (λ k g low high here. c.loop-number.invariant k g low (omega (arith, high, c.loop-number-test.false)) here) w),
    )
