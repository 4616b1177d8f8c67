use Rattle.std.proofs.Common.{◌≡◌, ◌∙◌, Some, map, slice_get, subst, sym}
use Rattle.std.proofs.lemmas.Option.{same_Some}
use Rattle.rbac_paths.specs.Joints.{IsHadBy}
use Rattle.rbac_paths.specs.Nodes.{NodeView, node_of}
use Rattle.rbac_paths.proofs.GraphOf.{had_more}
use Rattle.rbac_paths.proofs.Mapped.{mapped_at}
use Rattle.rbac_paths.proofs.graph.words_of_nodes.Goals as goal

pub loop-node-preserved : goal.loop-node-preserved
loop-node-preserved c =
    let ys = map node_of c.args.nodes.now in
    let i = c.loop-node.node-index in
    let x = node_of c.node-item.result in
    let ws = c.in_ok-words_of_node.field-0 in
    let at : slice_get ys i ≡ Some x = mapped_at node_of c.args.nodes.now i c.node-item.result c.loop-node-test.true c.node-item.is in
    rw c.in_ok-push.ensures.items
    (had_more ys i c.loop-node.all.items ws c.loop-node.invariant (λ y there. subst (λ (z : NodeView). IsHadBy z ws) (same_Some x y (sym at ∙ there)) c.in_ok-words_of_node.ensures))
