use Rattle.std.proofs.Common.{◌≡◌, ◌∙◌, ap, Some, map, slice_get, sym}
use Rattle.std.proofs.lemmas.Option.{same_Some}
use Rattle.rbac_paths.specs.Joints.{other_words}
use Rattle.rbac_paths.specs.Nodes.{node_of}
use Rattle.rbac_paths.proofs.Mapped.{mapped_at}
use Rattle.rbac_paths.proofs.OtherPlaces.{words_more, words_none}
use Rattle.rbac_paths.proofs.other_nodes.words_of_others.Goals as goal

pub loop-node-init : goal.loop-node-init
loop-node-init c = words_none (map node_of c.args.nodes.now) c.in_ok-all.all.items c.in_ok-all.ensures.items

pub loop-node-preserved : goal.loop-node-preserved
loop-node-preserved c =
    let ys = map node_of c.args.nodes.now in
    let i = c.loop-node.node-index in
    let x = node_of c.node-item.result in
    let at : slice_get ys i ≡ Some x = mapped_at node_of c.args.nodes.now i c.node-item.result c.loop-node-test.true c.node-item.is in
    rw c.in_ok-push.ensures.items
    (words_more ys i c.loop-node.all.items c.in_ok-words_of_other.field-0 c.loop-node.invariant (λ y there. c.in_ok-words_of_other.ensures ∙ ap other_words (same_Some x y (sym at ∙ there))))
