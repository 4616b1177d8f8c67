use Rattle.std.proofs.Common.{◌≡◌, ◌≤◌, ap, arith, length, refl, rules, slice_get}
use Rattle.std.specs.Ordering.{is_lt}
use Rattle.std.specs.Prelude.{Some}
use Rattle.std.proofs.lemmas.Fn.{answers_by}
use Rattle.std.proofs.lemmas.List.Sorted.{ranks_by}
use Rattle.std.proofs.lemmas.Option.{slice_get_read}
use Rattle.rbac_subjects.specs.declared.subject_keys.Keyed.{Keyed}
use Rattle.rbac_subjects.specs.Keyed.{keyed_cmp}
use Rattle.rbac_subjects.proofs.KeyedLemmas.{keyed_total}
use Rattle.rbac_subjects.proofs.NamingLemmas.{keyed_to_all, keyed_to_more, keyed_to_none, keyed_to_same}
use Rattle.rbac_subjects.proofs.subject_places.keyed_subjects.Goals as goal
use Rattle.rbac_subjects.proofs.subject_places.keyed_subjects.Goals.{in-Some+in_ok-push, in_default}

pub loop-place-init : goal.loop-place-init
loop-place-init c = keyed_to_none c.args.binding.now c.new-entries.result.items c.new-entries.ensures.items

pub loop-place-preserved : goal.loop-place-preserved
loop-place-preserved c =
    let b = c.args.binding.now in
    let items = c.as_slice-subject-items.result.now in
    let i = c.loop-place.place in
    let s = c.subject-item.result in
    let there : slice_get b.subjects i ≡ Some s = rw c.as_slice-subject-items.ensures at (slice_get_read items (length items) i s refl c.loop-place-test.true c.subject-item.is) in
    elim c.match-branch-2.branch [
      | in-Some+in_ok-push w ↦ rw (w.entries-is, w.in_ok-push.ensures.items) (keyed_to_more b i s there c.loop-place.entries.items c.loop-place.invariant w.in-Some.key
          (let key = rw w.in-Some.is at c.in_ok-key.ensures.key in rw (← c.as_ref.ensures.value) key))
      | in_default w ↦ rw w.entries-is (keyed_to_same b i s there c.loop-place.entries.items c.loop-place.invariant
          (let none = rw w.in_default.is at c.in_ok-key.ensures.key in rw (← c.as_ref.ensures.value) none))
    ]

pub returns : goal.returns
returns c =
    let b = c.args.binding.now in
    let all : length b.subjects ≤ c.loop-place.place = omega (arith, c.loop-place-test.false, ap length c.as_slice-subject-items.ensures) in
    let up = c.sort_unstable_by.ensures.sorted (λ x y. is_lt (keyed_cmp x y)) (ranks_by keyed_total (λ (y : Keyed). y)) (answers_by _ _ (λ f. Unit {0}) (λ f a r h called met. (search rules, tt)) _ tt) in
    keyed_to_all b c.loop-place.place c.loop-place.entries.items c.sort_unstable_by.new.self.items all c.loop-place.invariant c.sort_unstable_by.ensures.permutation up
