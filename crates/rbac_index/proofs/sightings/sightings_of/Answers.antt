use Rattle.std.proofs.Common.{◌≡◌, ◌<◌, length, slice_get, refl, arith}
use Rattle.std.specs.Prelude.{Some}
use Rattle.std.proofs.lemmas.List.Elements.{All-get_or}
use Rattle.std.proofs.lemmas.Option.{slice_get_within, slice_get_read}
use Rattle.rbac_index.specs.HolderViews.{requested_of, sighted}
use Rattle.rbac_index.proofs.HoldingLemmas.{candidate_brings, entered, passed_none, passed_more, passed_again, all_seen}
use Rattle.rbac_index.proofs.SeenLemmas.{seen_none}
use Rattle.rbac_index.proofs.sightings.sightings_of.Goals as goal
use Rattle.rbac_index.proofs.sightings.sightings_of.Goals.{then-next-place+in_ok-see_binding, else-next-place}

pub loop-no-init : goal.loop-no-init
loop-no-init c = λ verb are.
    let asked = c.args.scope.now in
    let t = (requested_of c.args.requested) in
    (rw c.new-seen.ensures.items (seen_none c.args.policy.now.held asked verb t), passed_none c.args.policy.now c.bindings-bindings.ensures.policy asked verb t c.args.numbers.now are)

pub place-place-requires : goal.place-place-requires
place-place-requires c = All-get_or (λ no. no < length c.args.policy.now.grants) c.args.numbers.now c.loop-no.no-index 0 c.loop-no-test.true c.requires

pub bounds-bindings-place : goal.bounds-bindings-place
bounds-bindings-place c =
    let of = c.place-place.ensures.binding in
    rw c.bindings-bindings.ensures.bindings (slice_get_within c.args.policy.now.held.bindings c.place-place.result.binding of.0.binding of.2)

pub offset_bounds-bindings-place : goal.offset_bounds-bindings-place
offset_bounds-bindings-place c =
    let of = c.place-place.ensures.binding in
    let low : c.place-place.result.binding < length c.bindings-bindings.result.now = rw c.bindings-bindings.ensures.bindings (slice_get_within c.args.policy.now.held.bindings c.place-place.result.binding of.0.binding of.2) in
    omega arith

pub overflow_add-next : goal.overflow_add-next
overflow_add-next c =
    let of = c.place-place.ensures.binding in
    let low : c.place-place.result.binding < length c.bindings-bindings.result.now = rw c.bindings-bindings.ensures.bindings (slice_get_within c.args.policy.now.held.bindings c.place-place.result.binding of.0.binding of.2) in
    omega arith

pub loop-no-preserved : goal.loop-no-preserved
loop-no-preserved c = λ verb are.
    let p = c.args.policy.now in
    let ok = c.bindings-bindings.ensures.policy in
    let asked = c.args.scope.now in
    let t = (requested_of c.args.requested) in
    let ns = c.args.numbers.now in
    let k = c.loop-no.no-index in
    let place = c.place-place.result.binding in
    let of = c.place-place.ensures.binding in
    let before = c.loop-no.invariant verb are in
    elim c.if-next-place.branch [
      | then-next-place+in_ok-see_binding w ↦
          let bindings = c.bindings-bindings.result.now in
          let binding = w.index-bindings-place.result in
          let low : place < length bindings = rw c.bindings-bindings.ensures.bindings (slice_get_within p.held.bindings place of.0.binding of.2) in
          let at : slice_get p.held.bindings place ≡ Some binding = rw (← c.bindings-bindings.ensures.bindings) (slice_get_read bindings (length bindings) place binding refl low w.index-bindings-place.is) in
          let seen = entered p ok asked verb t ns are k c.loop-no.next place (sighted c.loop-no.seen.items) c.loop-no-test.true of w.if-next-place.true before.1 before.0 in
          let more = w.in_ok-see_binding.ensures p.held verb at (candidate_brings p ok asked verb t ns are k place c.loop-no-test.true of) seen in
          rw (w.next-is, w.seen-is) (more, passed_more p ok asked verb t ns are k c.loop-no.next place c.loop-no-test.true of w.if-next-place.true before.1)
      | else-next-place w ↦ rw (w.next-is, w.seen-is) (before.0, passed_again p ok asked verb t ns are k c.loop-no.next place c.loop-no-test.true of w.if-next-place.false before.1)
    ]

pub returns : goal.returns
returns c = λ verb are.
    let before = c.loop-no.invariant verb are in
    all_seen c.args.policy.now c.bindings-bindings.ensures.policy c.args.scope.now verb (requested_of c.args.requested) c.args.numbers.now are c.loop-no.no-index c.loop-no.next (sighted c.loop-no.seen.items) c.loop-no-test.false before.1 before.0
