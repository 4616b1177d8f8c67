use Rattle.std.proofs.Common.{◌≡◌, ◌∙◌, length, slice_get, sym, ap, refl, subst, arith, inl, inr}
use Rattle.std.specs.Prelude.{Some}
use Rattle.std.proofs.lemmas.Bool.{both_ways, cases_eq}
use Rattle.std.proofs.lemmas.Option.{slice_get_read, same_Some}
use Rattle.rbac_terms.specs.Granting.{Names}
use Rattle.rbac_terms.specs.declared.granting.Subject.{Subject}
use Rattle.rbac_model.proofs.why.naming_place.Goals as goal

pub loop-place-preserved : goal.loop-place-preserved
loop-place-preserved c =
    let subjects = c.args.binding.now.subjects in
    let items = c.as_slice-subject-items.result.now in
    let i = c.loop-place.place in
    let item = c.subject-item.result in
    let here : slice_get subjects i ≡ Some item = rw c.as_slice-subject-items.ensures at (slice_get_read items (length items) i item refl c.loop-place-test.true c.subject-item.is) in
    λ k s low read named. elim (cases_eq k i) [
      | inl e ↦
          let same : s ≡ item = same_Some s item (sym read ∙ ap (slice_get subjects) e ∙ here) in
          let told : Names item c.args.binding.now.namespace c.args.principal.now = subst (λ (x : Subject). Names x c.args.binding.now.namespace c.args.principal.now) same named in
          both_ways _ c.if-names.false (c.names.ensures.1 (rw c.as_ref-namespace.ensures.value told))
      | inr ne ↦ c.loop-place.invariant k s (omega (arith, low, ne)) read named
    ]

pub returns-then-names : goal.returns-then-names
returns-then-names c =
    let items = c.as_slice-subject-items.result.now in
    let item = c.subject-item.result in (
      item,
      record {
        here = rw c.as_slice-subject-items.ensures at (slice_get_read items (length items) c.loop-place.place item refl c.loop-place-test.true c.subject-item.is);
        holds = rw (← c.as_ref-namespace.ensures.value) (c.names.ensures.0 c.if-names.true);
        none_before = c.loop-place.invariant;
      },
    )

pub returns : goal.returns
returns c = λ some.
    let subjects = c.args.binding.now.subjects in
    let read : slice_get subjects some.0 ≡ Some some.1 = slice_get_read subjects (length subjects) some.0 some.1 refl some.2 (sym some.3) in
    c.loop-place.invariant some.0 some.1 (omega (arith, some.2, c.loop-place-test.false, ap length c.as_slice-subject-items.ensures)) read some.4
