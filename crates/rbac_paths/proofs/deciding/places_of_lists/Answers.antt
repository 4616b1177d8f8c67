use Rattle.std.proofs.Common.{◌≡◌, ◌∙◌, ◌+◌, Some, arith, length, map, slice_get, subst, sym, ℕ}
use Rattle.std.proofs.lemmas.Option.{same_Some}
use Rattle.rbac_paths.specs.Deciding.{ArePlaces, ArePlacesOf}
use Rattle.rbac_paths.specs.Nodes.{NodeView, node_of}
use Rattle.rbac_paths.proofs.ListPlaces.{places_more, places_none}
use Rattle.rbac_paths.proofs.Mapped.{mapped_at}
use Rattle.rbac_paths.proofs.deciding.places_of_lists.Goals as goal

pub loop-place-init : goal.loop-place-init
loop-place-init c = places_none c.args.index.now c.args.grants.now (map node_of c.args.nodes.now) c.in_ok-all.all.items c.in_ok-all.ensures.items

pub loop-place-preserved : goal.loop-place-preserved
loop-place-preserved c =
    let p = c.args.index.now in
    let grants = c.args.grants.now in
    let ys = map node_of c.args.nodes.now in
    let place = c.loop-place.place in
    let x = node_of c.index-nodes-place.result in
    let places = c.in_ok-places_of_node.field-0 in
    let at : slice_get ys place ≡ Some x = mapped_at node_of c.args.nodes.now place c.index-nodes-place.result c.loop-place-test.true c.index-nodes-place.is in
    rw c.in_ok-push.ensures.items
    (places_more p grants ys place c.loop-place.all.items places c.loop-place.invariant
    (λ y there. subst (λ (z : NodeView). ArePlacesOf p grants (length grants + place) z places) (same_Some x y (sym at ∙ there)) c.in_ok-places_of_node.ensures))

pub returns : goal.returns
returns c =
    let end : c.loop-place.place ≡ length c.args.nodes.now = (let test = c.loop-place-test.false in let low = c.loop-place.auto.place-end in omega (arith, test, low)) in
    subst (λ (n : ℕ). ArePlaces c.args.index.now c.args.grants.now (map node_of c.args.nodes.now) n c.loop-place.all.items) end c.loop-place.invariant
