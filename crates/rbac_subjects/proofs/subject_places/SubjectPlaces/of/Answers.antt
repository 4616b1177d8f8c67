use Rattle.std.proofs.Common.{◌≡◌, ◌∙◌, ◌+◌, ℕ, ap, arith, length, refl, slice_get}
use Rattle.std.specs.Prelude.{Some}
use Rattle.std.proofs.lemmas.List.{length_push}
use Rattle.std.proofs.lemmas.Option.{slice_get_read, slice_get_within}
use Rattle.rbac_subjects.proofs.NamingLemmas.{of_bindings_more}
use Rattle.rbac_subjects.proofs.subject_places.SubjectPlaces.of.Goals as goal

pub loop-binding-init : goal.loop-binding-init
loop-binding-init c = record { len = ap length c.in_ok-large.ensures.items; each = λ at b low there. absurd (omega (arith, low)) }

pub loop-binding-preserved : goal.loop-binding-preserved
loop-binding-preserved c =
    let bs = c.args.policy.now.held.bindings in
    let items = c.bindings-bindings.result.now in
    let i = c.loop-binding.binding-index in
    let b = c.binding-item.result in
    let lists = c.loop-binding.large.items in
    let xs = c.in_ok-keyed_if_many.field-0 in
    let there : slice_get bs i ≡ Some b = rw c.bindings-bindings.ensures.bindings at (slice_get_read items (length items) i b refl c.loop-binding-test.true c.binding-item.is) in
    rw c.in_ok-push.ensures.items (record {
      len = length_push lists xs ∙ ap (λ (n : ℕ). n + 1) c.loop-binding.invariant.len;
      each = of_bindings_more bs i b lists xs there c.loop-binding.invariant.len c.in_ok-keyed_if_many.ensures c.loop-binding.invariant.each;
    })

pub invariant_of-result : goal.invariant_of-result
invariant_of-result c = λ at b there. c.loop-binding.invariant.each at b (let low = slice_get_within c.args.policy.now.held.bindings at b there in omega (arith, low, c.loop-binding-test.false, ap length c.bindings-bindings.ensures.bindings)) there
