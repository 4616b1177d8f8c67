use Rattle.std.proofs.Common.{◌≡◌, ap, refl, length, slice_get, arith}
use Rattle.std.specs.Prelude.{Some}
use Rattle.std.proofs.lemmas.Option.{slice_get_read}
use Rattle.rbac_subjects.proofs.KeyingLemmas.{keys_with, keys_without, keys_all}
use Rattle.rbac_subjects.proofs.subject_keys.push_keys.Goals as goal
use Rattle.rbac_subjects.proofs.subject_keys.push_keys.Goals.{in-Some+in_ok-push, in_default}

pub loop-subject-preserved : goal.loop-subject-preserved
loop-subject-preserved c =
    let items = c.as_slice-subject-items.result.now in
    let j = c.loop-subject.subject-index in
    let subject = c.subject-item.result in
    let old = c.args.entries.now.items in
    let mid = c.loop-subject.entries.items in
    let there : slice_get c.args.binding.now.subjects j ≡ Some subject = rw (← c.as_slice-subject-items.ensures) (slice_get_read items (length items) j subject refl c.loop-subject-test.true c.subject-item.is) in
    elim c.match-branch-2.branch [
      | in-Some+in_ok-push w ↦
          keys_with old mid c.args.binding.now c.args.place j subject there c.loop-subject.invariant w.in-Some.key c.match-branch-2.entries.items
          (let key = rw w.in-Some.is at c.in_ok-key.ensures.key in rw (← c.as_ref.ensures.value) key)
          (rw w.entries-is w.in_ok-push.ensures.items)
      | in_default w ↦
          rw w.entries-is (keys_without old mid c.args.binding.now c.args.place j subject there c.loop-subject.invariant
          (let none = rw w.in_default.is at c.in_ok-key.ensures.key in rw (← c.as_ref.ensures.value) none))
    ]

pub returns : goal.returns
returns c =
    let at : c.loop-subject.subject-index ≡ length c.args.binding.now.subjects = omega (arith, c.loop-subject.auto.subject-index-end, c.loop-subject-test.false, ap length c.as_slice-subject-items.ensures) in
    keys_all c.args.entries.now.items c.loop-subject.entries.items c.args.binding.now c.args.place c.loop-subject.subject-index at c.loop-subject.invariant
