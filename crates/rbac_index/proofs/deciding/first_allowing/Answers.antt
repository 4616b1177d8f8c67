use Rattle.std.proofs.Common.{◌≡◌, ℕ, arith, sym, ◌∙◌, subst, refl, inl, inr, slice_get}
use Rattle.std.specs.Prelude.{Some}
use Rattle.std.proofs.lemmas.Bool.{cases_eq, both_ways}
use Rattle.std.proofs.lemmas.Option.{same_Some}
use Rattle.rbac_model.specs.Policies.{GrantView, IsOfBinding}
use Rattle.rbac_model.specs.Sources.{grant_of}
use Rattle.rbac_model.proofs.BindingPlaces.{of_some_binding}
use Rattle.rbac_index.specs.HolderViews.{requested_of}
use Rattle.rbac_index.specs.Requested.{AllowsRequested}
use Rattle.rbac_index.proofs.deciding.first_allowing.Goals as goal

pub loop-no-init : goal.loop-no-init
loop-no-init c = λ n lt by. let within = (c.grants_of-from.ensures.between n c.args.place by.0).1 refl in omega (arith, within.0)

pub returns-then-allows_requested : goal.returns-then-allows_requested
returns-then-allows_requested c =
    let of = of_some_binding c.args.policy.now c.grants_of-from.ensures.policy c.loop-no.no (omega (arith, c.grants_of-from.ensures.within, c.loop-no-test.true)) in
    let here : of.0 ≡ c.args.place = (c.grants_of-from.ensures.between c.loop-no.no of.0 of.1).0 (c.loop-no.auto.no, c.loop-no-test.true) in
    let P : ℕ → Type 0 = IsOfBinding c.args.policy.now c.loop-no.no in
    ((subst P here of.1, (grant_of c.grant.result, c.grant.ensures.grant, c.allows_requested.ensures.0 c.if-allows_requested.true)), c.loop-no.invariant)

pub loop-no-preserved : goal.loop-no-preserved
loop-no-preserved c = λ n lt by.
    elim (cases_eq n c.loop-no.no) [
      | inl e ↦
          let at : slice_get c.args.policy.now.grants n ≡ Some (grant_of c.grant.result) = rw e c.grant.ensures.grant in
          let same : by.1.0 ≡ grant_of c.grant.result = same_Some by.1.0 (grant_of c.grant.result) (sym by.1.1 ∙ at) in
          let P : GrantView → Type 0 = λ g. AllowsRequested g.rule.rule c.args.verb.now (requested_of c.args.requested) in
          both_ways _ c.if-allows_requested.false (c.allows_requested.ensures.1 (subst P same by.1.2))
      | inr ne ↦ c.loop-no.invariant n (omega arith) by
    ]

pub returns : goal.returns
returns c = λ n by.
    let within = (c.grants_of-from.ensures.between n c.args.place by.0).1 refl in
    c.loop-no.invariant n (omega (arith, within.1, c.loop-no-test.false)) by
