use Rattle.std.proofs.Common.{◌≡◌, ap, refl, length, slice_get, arith}
use Rattle.std.specs.Prelude.{Some}
use Rattle.std.proofs.lemmas.List.{map-append}
use Rattle.std.proofs.lemmas.Option.{slice_get_read}
use Rattle.rbac_index.specs.HolderViews.{holder_of, sighted}
use Rattle.rbac_index.proofs.SeenLemmas.{seen_keyed, seen_unkeyed, seen_left}
use Rattle.rbac_index.proofs.sightings.see_subjects.Goals as goal
use Rattle.rbac_index.proofs.sightings.see_subjects.Goals.{in-Some+in_ok-push, in_default}

pub loop-subject_place-preserved : goal.loop-subject_place-preserved
loop-subject_place-preserved c = λ held asked verb t at brings seen.
    let items = c.as_slice-subject-items.result.now in
    let j = c.loop-subject_place.subject_place in
    let subject = c.subject-item.result in
    let there : slice_get c.args.binding.now.subjects j ≡ Some subject = rw (← c.as_slice-subject-items.ensures) (slice_get_read items (length items) j subject refl c.loop-subject_place-test.true c.subject-item.is) in
    let before = c.loop-subject_place.invariant held asked verb t at brings seen in
    elim c.match-branch-2.branch [
      | in-Some+in_ok-push w ↦
          rw (w.seen-is, w.in_ok-push.ensures.items, map-append holder_of c.loop-subject_place.seen.items _)
          (seen_keyed held asked verb t c.args.binding_place j c.args.binding.now subject at there w.in-Some.key (sighted c.loop-subject_place.seen.items) brings
          (let key = rw w.in-Some.is at c.in_ok-key.ensures.key in rw (← c.as_ref.ensures.value) key)
          before)
      | in_default w ↦
          rw w.seen-is (seen_unkeyed held asked verb t c.args.binding_place j c.args.binding.now subject at there (sighted c.loop-subject_place.seen.items)
          (let none = rw w.in_default.is at c.in_ok-key.ensures.key in rw (← c.as_ref.ensures.value) none)
          before)
    ]

pub returns : goal.returns
returns c = λ held asked verb t at brings seen.
    seen_left held asked verb t c.args.binding_place c.loop-subject_place.subject_place c.args.binding.now (sighted c.loop-subject_place.seen.items) at
    (omega (arith, c.loop-subject_place-test.false, ap length c.as_slice-subject-items.ensures)) (c.loop-subject_place.invariant held asked verb t at brings seen)
