use Rattle.std.proofs.Common.{◌≡◌, ◌+◌, ◌∷◌, ◌++◌, [], take, arith, sym}
use Rattle.std.proofs.lemmas.List.{take_all}
use Rattle.std.proofs.lemmas.Option.{get_or_from_slice_get, slice_get_within}
use Rattle.rbac_index.specs.HolderViews.{holder_shown}
use Rattle.rbac_model.proofs.Stairs.{take_read}
use Rattle.rbac_members.proofs.Labels.{more_labels, no_labels}
use Rattle.rbac_members.proofs.members.labels_of.Goals as goal

pub loop-place-init : goal.loop-place-init
loop-place-init c = rw c.new-told.ensures.empty (no_labels c.args.every)

pub loop-place-preserved : goal.loop-place-preserved
loop-place-preserved c =
    let xs = c.args.holders.now in
    let place = c.loop-place.place in
    let x = holder_shown c.get.result in
    let more : take (place + 1) xs ≡ take place xs ++ x ∷ [] = take_read xs place x (slice_get_within xs place x c.get.ensures) (sym (get_or_from_slice_get xs place x x c.get.ensures)) in
    rw more (more_labels c.args.every (take place xs) x c.loop-place.told.keys c.tell.new.told.keys c.in_ok-tell.ensures.told c.loop-place.invariant)

pub returns : goal.returns
returns c =
    let xs = c.args.holders.now in
    let all : take c.loop-place.place xs ≡ xs = take_all c.loop-place.place xs (omega (arith, c.loop-place-test.false, c.len-place-end.ensures)) in
    rw all at c.loop-place.invariant
