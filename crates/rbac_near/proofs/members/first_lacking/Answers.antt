use Rattle.std.proofs.Common.{◌≡◌, ◌<◌, Some, arith, length, refl, rules, slice_get, subst}
use Rattle.std.proofs.lemmas.Bool.{both_ways}
use Rattle.std.proofs.lemmas.Option.{slice_get_read}
use Rattle.rbac_model.specs.Policies.{IsOfBinding}
use Rattle.rbac_model.specs.Sources.{grant_of}
use Rattle.rbac_near.specs.Members.{IsFirstLacking}
use Rattle.rbac_near.specs.Near.{request_of}
use Rattle.rbac_near.proofs.LackingMember.{first_lacking, none_allowing, none_for_others}
use Rattle.rbac_near.proofs.members.first_lacking.Goals as goal

pub returns-then-not-counts_for_others : goal.returns-then-not-counts_for_others
returns-then-not-counts_for_others c =
    let p = c.args.policy.now in
    let q = request_of c.args.request in
    let b = c.index-bindings-place.result in
    let there : slice_get p.held.bindings c.args.place ≡ Some b = slice_get_read _ _ _ _ refl c.requires (rw c.bindings.ensures.bindings at c.index-bindings-place.is) in
    none_for_others p q c.args.place b there (λ others. both_ways _ c.if-not-counts_for_others.true (c.counts_for_others.ensures.1 others))

pub returns-then-rule_allows : goal.returns-then-rule_allows
returns-then-rule_allows c =
    let p = c.args.policy.now in
    let q = request_of c.args.request in
    let b = c.index-bindings-place.result in
    let n = c.loop-number.number in
    let own = grant_of c.grant.result in
    let there : slice_get p.held.bindings c.args.place ≡ Some b = slice_get_read _ _ _ _ refl c.requires (rw c.bindings.ensures.bindings at c.index-bindings-place.is) in
    let between = c.grants_of-from.ensures.between in
    let of : IsOfBinding p n c.args.place = subst (λ at. IsOfBinding p n at) ((between n c.grant.result.binding_place c.grant.ensures.binding).0 (c.loop-number.auto.number, c.loop-number-test.true)) c.grant.ensures.binding in
    let within : n < length p.grants = omega (arith, c.loop-number-test.true, c.grants_of-from.ensures.within) in
    let told : IsFirstLacking p q c.args.place n = first_lacking p q c.args.place b there c.grants_of-from.result.0 c.grants_of-from.result.1 between n own c.loop-number.invariant within of c.grant.ensures.grant (c.counts_for_others.ensures.0 c.if-not-counts_for_others.false)
    (c.rule_allows.ensures.0 c.if-rule_allows.true) in
    search rules

pub returns : goal.returns
returns c =
    let p = c.args.policy.now in
    let q = request_of c.args.request in
    let b = c.index-bindings-place.result in
    let there : slice_get p.held.bindings c.args.place ≡ Some b = slice_get_read _ _ _ _ refl c.requires (rw c.bindings.ensures.bindings at c.index-bindings-place.is) in
    none_allowing p q c.args.place b there c.grants_of-from.result.0 c.grants_of-from.result.1 c.grants_of-from.ensures.between (λ k g low high here. c.loop-number.invariant k g low (omega (arith, high, c.loop-number-test.false)) here)
