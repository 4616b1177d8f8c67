use Rattle.std.proofs.Common.{◌<◌, false, ap, length, refl, arith}
use Rattle.std.specs.Prelude.{Err}
use Rattle.std.proofs.lemmas.List.{length_push}
use Rattle.std.specs.List.Sorted.{IsBinarySearchResult}
use Rattle.std.specs.Ordering.{nat_cmp}
use Rattle.rbac_subjects.proofs.LeastLemmas.{all_below, at_most, found_ascends, room_made, taken_off, takes_for_last, takes_none, takes_one}
use Rattle.rbac_subjects.proofs.least_places.LeastPlaces.take_in.Goals as goal

pub invariant_of-self : goal.invariant_of-self
invariant_of-self c =
    let found : IsBinarySearchResult (λ x. nat_cmp x c.args.place) c.self.inside.kept.items (Err c.in-Err.at) = rw c.as_slice.ensures.value at c.in-Err.ensures.position in (
      rw c.insert.ensures.items (found_ascends c.self.inside.kept.items c.self.invariant.0 c.args.place c.in-Err.at found),
      λ e. let full = c.self.invariant.1 e in absurd (omega (arith, full, c.len.ensures.value, c.if-len-lt-MOST_KEPT.true)),
    )

pub returns-then-len-lt-MOST_KEPT-clause-takes : goal.returns-then-len-lt-MOST_KEPT-clause-takes
returns-then-len-lt-MOST_KEPT-clause-takes c =
    let found : IsBinarySearchResult (λ x. nat_cmp x c.args.place) c.self.inside.kept.items (Err c.in-Err.at) = rw c.as_slice.ensures.value at c.in-Err.ensures.position in
    rw (← c.self.view_is, c.insert.ensures.items) (takes_one (record { kept = c.self.inside.kept.items; are_all = c.self.inside.are_all }) c.in-Err.at c.args.place
    (at_most c.self.inside.kept.items c.self.invariant.0 c.args.place c.in-Err.at found) (λ e. let full = c.self.invariant.1 e in omega (arith, full, c.len.ensures.value, c.if-len-lt-MOST_KEPT.true)))

pub returns-then-at-eq-MOST_KEPT-clause-takes : goal.returns-then-at-eq-MOST_KEPT-clause-takes
returns-then-at-eq-MOST_KEPT-clause-takes c =
    let found : IsBinarySearchResult (λ x. nat_cmp x c.args.place) c.self.inside.kept.items (Err c.in-Err.at) = rw c.as_slice.ensures.value at c.in-Err.ensures.position in
    rw (← c.self.view_is) (takes_none (record { kept = c.self.inside.kept.items; are_all = c.self.inside.are_all }) c.args.place
    (all_below c.self.inside.kept.items c.self.invariant.0 c.args.place c.in-Err.at found (omega (arith, c.len.ensures.fits, c.len.ensures.value, c.if-at-eq-MOST_KEPT.true))))

pub returns-then-at-eq-MOST_KEPT-clause-past : goal.returns-then-at-eq-MOST_KEPT-clause-past
returns-then-at-eq-MOST_KEPT-clause-past c = λ _.
    let found : IsBinarySearchResult (λ x. nat_cmp x c.args.place) c.self.inside.kept.items (Err c.in-Err.at) = rw c.as_slice.ensures.value at c.in-Err.ensures.position in
    (refl, all_below c.self.inside.kept.items c.self.invariant.0 c.args.place c.in-Err.at found (omega (arith, c.len.ensures.fits, c.len.ensures.value, c.if-at-eq-MOST_KEPT.true)))

pub invariant_of-self-2 : goal.invariant_of-self-2
invariant_of-self-2 c =
    let xs = c.self.inside.kept.items in
    let found : IsBinarySearchResult (λ x. nat_cmp x c.args.place) xs (Err c.in-Err.at) = rw c.as_slice.ensures.value at c.in-Err.ensures.position in
    let low : c.in-Err.at < length xs = omega (arith, at_most xs c.self.invariant.0 c.args.place c.in-Err.at found, c.len.ensures.fits, c.len.ensures.value, c.if-len-lt-MOST_KEPT.false, c.if-at-eq-MOST_KEPT.false) in
    let last = taken_off xs c.pop.new.self.items c.pop.result (omega (arith, low)) c.pop.ensures.value c.pop.ensures.items in
    (rw c.insert-2.ensures.items (room_made (record { kept = xs; are_all = false }) c.pop.new.self.items last.0 last.1 c.self.invariant.0 c.in-Err.at c.args.place found low), λ _. omega (arith, c.insert-2.ensures.len, ap length last.1, length_push c.pop.new.self.items last.0, c.len.ensures.value, c.len.ensures.fits, c.if-len-lt-MOST_KEPT.false))

pub returns-clause-takes : goal.returns-clause-takes
returns-clause-takes c =
    let xs = c.self.inside.kept.items in
    let found : IsBinarySearchResult (λ x. nat_cmp x c.args.place) xs (Err c.in-Err.at) = rw c.as_slice.ensures.value at c.in-Err.ensures.position in
    let low : c.in-Err.at < length xs = omega (arith, at_most xs c.self.invariant.0 c.args.place c.in-Err.at found, c.len.ensures.fits, c.len.ensures.value, c.if-len-lt-MOST_KEPT.false, c.if-at-eq-MOST_KEPT.false) in
    let last = taken_off xs c.pop.new.self.items c.pop.result (omega (arith, low)) c.pop.ensures.value c.pop.ensures.items in
    rw (← c.self.view_is, c.insert-2.ensures.items) (takes_for_last (record { kept = xs; are_all = c.self.inside.are_all }) c.pop.new.self.items last.0 last.1 c.self.invariant.0 c.in-Err.at c.args.place found low)
