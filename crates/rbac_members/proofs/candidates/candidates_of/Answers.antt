use Rattle.std.proofs.Common.{◌≡◌, take, arith, sym}
use Rattle.std.proofs.lemmas.List.{take_all}
use Rattle.std.proofs.lemmas.Option.{get_or_from_slice_get, slice_get_within}
use Rattle.rbac_index.specs.HolderViews.{holder_shown}
use Rattle.rbac_members.proofs.CandidateLemmas.{more_candidates, no_candidates}
use Rattle.rbac_members.proofs.candidates.candidates_of.Goals as goal

pub loop-place-init : goal.loop-place-init
loop-place-init c = λ ms listed up. rw c.new-members.ensures.items (no_candidates ms)

pub loop-place-preserved : goal.loop-place-preserved
loop-place-preserved c =
    let xs = c.args.holders.now in
    let place = c.loop-place.place in
    let x = holder_shown c.get.result in
    let (more, adds, items) = c.in_ok-add_members.ensures in
    λ ms listed up.
    rw items (more_candidates ms c.args.listings.now listed xs up place x (slice_get_within xs place x c.get.ensures) (sym (get_or_from_slice_get xs place x x c.get.ensures)) c.loop-place.members.items more (c.loop-place.invariant ms listed up) adds)

pub returns : goal.returns
returns c =
    let xs = c.args.holders.now in
    let all : take c.loop-place.place xs ≡ xs = take_all c.loop-place.place xs (omega (arith, c.loop-place-test.false, c.len-place-end.ensures)) in
    rw all at c.loop-place.invariant
