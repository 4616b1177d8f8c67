use Rattle.std.proofs.Common.{take}
use Rattle.std.proofs.lemmas.List.{take_more}
use Rattle.rbac_ways.proofs.Turning.{adds_then}
use Rattle.rbac_ways.proofs.joining.add_to_each.Goals as goal

pub loop-place-preserved : goal.loop-place-preserved
loop-place-preserved c =
    let places = c.args.places.now in
    let i = c.loop-place.place-index in
    rw (take_more places i 0 c.loop-place-test.true)
    (adds_then (take i places) _ c.args.node c.args.lists.now.items c.loop-place.lists.items c.add_to.new.lists.items c.loop-place.invariant c.in_ok-add_to.ensures)
