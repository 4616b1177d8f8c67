use Rattle.std.proofs.Common.{◌≡◌, ◌+◌, ◌++◌, ◌∷◌, [], length, ap, arith, take}
use Rattle.std.proofs.lemmas.List.{take_all}
use Rattle.rbac_model.proofs.Stairs.{take_read}
use Rattle.rbac_model.proofs.LabelAdding.{adds_none, adds_more}
use Rattle.rbac_model.proofs.labels.push_labels.Goals as goal

pub loop-label-init : goal.loop-label-init
loop-label-init c = adds_none c.args.entries.now.items c.args.place

pub loop-label-preserved : goal.loop-label-preserved
loop-label-preserved c =
    let items = c.as_slice-label-items.result.now in
    let ls = c.args.labels.now in
    let i = c.loop-label.label-index in
    let x = c.label-item.result in
    let more : take (i + 1) ls ≡ take i ls ++ x ∷ [] = rw c.as_slice-label-items.ensures at (take_read items i x c.loop-label-test.true c.label-item.is) in
    rw (c.in_ok-push-2.ensures.items, c.in_ok-push.ensures.items, more) (adds_more c.args.entries.now.items c.loop-label.entries.items (take i ls) x c.args.place c.loop-label.invariant)

pub returns : goal.returns
returns c =
    let all : take c.loop-label.label-index c.args.labels.now ≡ c.args.labels.now =
    take_all c.loop-label.label-index c.args.labels.now (omega (arith, c.loop-label-test.false, ap length c.as_slice-label-items.ensures)) in
    rw all at c.loop-label.invariant
