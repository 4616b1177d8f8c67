use Rattle.std.proofs.Common.{◌≡◌, ◌<◌, ◌∙◌, sym, subst, arith, inl, inr, Some, Option, Any, false, true, length, slice_get}
use Rattle.std.proofs.lemmas.Option.{same_Some}
use Rattle.std.proofs.lemmas.Bool.{cases_lt}
use Rattle.rbac_terms.specs.Text.{Text}
use Rattle.rbac_model.specs.Policies.{GrantView, IsOfBinding}
use Rattle.rbac_model.specs.Sources.{grant_of}
use Rattle.rbac_paths.specs.Steps.{AllowsIn}
use Rattle.rbac_paths.proofs.Giving.{gives_none, first_giving}
use Rattle.rbac_paths.proofs.finding.first_giving.Goals as goal

pub loop-no-init : goal.loop-no-init
loop-no-init c k g on low = absurd (omega (arith, on, low))

pub loop-no-preserved : goal.loop-no-preserved
loop-no-preserved c k g on low here any = elim (cases_lt k c.loop-no.no) [
  | inl less ↦ c.loop-no.invariant k g on less here any
  | inr high ↦ (let own = grant_of c.grant-grant.result in
      let same : k ≡ c.loop-no.no = omega (arith, low, high) in
      let is : g ≡ own = same_Some g own (sym (subst (λ i. slice_get c.args.policy.now.grants i ≡ Some g) same here) ∙ c.grant-grant.ensures.grant) in
      let mine : Any (AllowsIn own.binding.namespace own.rule.rule) c.args.rows.now = subst (λ (x : GrantView). Any (AllowsIn x.binding.namespace x.rule.rule) c.args.rows.now) is any in
      let allowed : true ≡ c.allows_some.result = sym (c.allows_some.ensures.1 (subst (λ (o : Option Text). Any (AllowsIn o own.rule.rule) c.args.rows.now) (sym c.as_ref.ensures.value) mine)) in
      let both : true ≡ false = allowed ∙ c.if-allows_some.false in
      cc)
]

pub returns-then-allows_some : goal.returns-then-allows_some
returns-then-allows_some c =
    let p = c.args.policy.now in
    let own = grant_of c.grant-grant.result in
    let n = c.loop-no.no in
    let between = c.grants_of-from.ensures.between in
    let is : IsOfBinding p n c.args.place = subst (λ at. IsOfBinding p n at) ((between n c.grant-grant.result.binding_place c.grant-grant.ensures.binding).0 (c.loop-no.auto.no, c.loop-no-test.true)) c.grant-grant.ensures.binding in
    let allows : Any (AllowsIn own.binding.namespace own.rule.rule) c.args.rows.now = subst (λ (o : Option Text). Any (AllowsIn o own.rule.rule) c.args.rows.now) c.as_ref.ensures.value (c.allows_some.ensures.0 c.if-allows_some.true) in
    let low : n < length p.grants = omega (arith, c.loop-no-test.true, c.grants_of-from.ensures.within) in
    record {
      first = λ step of. first_giving p c.args.rows.now c.grants_of-from.result.0 c.grants_of-from.result.1 c.args.place step of between n own c.loop-no.invariant low c.loop-no-test.true is c.grant-grant.ensures.grant allows;
      number = low;
      policy = c.grants_of-from.ensures.policy;
    }

pub returns : goal.returns
returns c = record {
  first = λ step of. gives_none c.args.policy.now c.args.rows.now c.grants_of-from.result.0 c.grants_of-from.result.1 c.args.place step of c.grants_of-from.ensures.between (λ k g on low here. c.loop-no.invariant k g on (omega (arith, low, c.loop-no-test.false)) here);
  number = tt;
  policy = c.grants_of-from.ensures.policy;
}
