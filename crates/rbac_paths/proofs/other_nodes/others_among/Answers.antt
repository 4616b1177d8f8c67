use Rattle.std.proofs.Common.{◌≡◌, ◌∙◌, ◌<◌, List, ℕ, Some, arith, get_or, length, map, rules, slice_get, subst, sym, take}
use Rattle.std.proofs.lemmas.Bool.{false≢true}
use Rattle.std.proofs.lemmas.List.{length-map, take_all, take_more}
use Rattle.std.proofs.lemmas.Option.{same_Some, slice_get_within}
use Rattle.rbac_paths.specs.Joints.{AreOthersAt, IsNobody, IsOther}
use Rattle.rbac_paths.specs.TakingOver.{TakesOver}
use Rattle.rbac_paths.specs.Nodes.{node_of}
use Rattle.rbac_paths.proofs.Mapped.{mapped_at}
use Rattle.rbac_paths.proofs.Kept.{kept_more, kept_none, kept_same}
use Rattle.rbac_paths.proofs.LinesTold.{is_here}
use Rattle.rbac_paths.proofs.other_nodes.others_among.Goals as goal
use Rattle.rbac_paths.proofs.other_nodes.others_among.Goals.{then-takes_other+in_ok-push, else-takes_other}

pub loop-place-init : goal.loop-place-init
loop-place-init c = (
  λ p decide. kept_none (IsOther p c.args.steps.now (node_of c.args.from) (map node_of c.args.nodes.now)) c.new-taken.result.items c.new-taken.ensures.items,
  λ all. absurd (false≢true all),
)

pub offset_bounds-nodes-place : goal.offset_bounds-nodes-place
offset_bounds-nodes-place c =
    let i = c.loop-place.place-index in
    let place = get_or c.args.places.now i 0 in
    let at = c.requires i 0 c.loop-place-test.true in
    let low = slice_get_within (map node_of c.args.nodes.now) place at.0 at.1 in
    let len = length-map c.args.nodes.now node_of in
    let within : place < length c.args.nodes.now = omega (arith, low, len) in
    search rules

pub bounds-nodes-place : goal.bounds-nodes-place
bounds-nodes-place c =
    let i = c.loop-place.place-index in
    let place = get_or c.args.places.now i 0 in
    let at = c.requires i 0 c.loop-place-test.true in
    let low = slice_get_within (map node_of c.args.nodes.now) place at.0 at.1 in
    let len = length-map c.args.nodes.now node_of in
    omega (arith, low, len)

pub loop-place-preserved : goal.loop-place-preserved
loop-place-preserved c =
    let steps = c.args.steps.now in
    let x = node_of c.args.from in
    let ys = map node_of c.args.nodes.now in
    let places = c.args.places.now in
    let i = c.loop-place.place-index in
    let place = get_or places i 0 in
    let y = node_of c.index-nodes-place.result in
    let js = c.loop-place.taken.items in
    let is = c.requires i 0 c.loop-place-test.true in
    let within : place < length c.args.nodes.now = (let low = slice_get_within ys place is.0 is.1 in let len = length-map c.args.nodes.now node_of in omega (arith, low, len)) in
    let at : slice_get ys place ≡ Some y = mapped_at node_of c.args.nodes.now place c.index-nodes-place.result within c.index-nodes-place.is in
    let nobody = is_here IsNobody ys place y at is in
    elim c.if-takes_other.branch [
      | then-takes_other+in_ok-push w ↦ rw (w.taken-is, w.in_ok-push.ensures.items, take_more places i 0 c.loop-place-test.true) (
        λ p decide. kept_more (IsOther p steps x ys) (take i places) place js (c.loop-place.invariant.0 p decide) (y, at, nobody, (c.takes_other.ensures p decide nobody).0 w.if-takes_other.true),
        c.seen_for-seen.ensures.seen,
      )
      | else-takes_other w ↦ rw (w.taken-is, take_more places i 0 c.loop-place-test.true) (
        λ p decide. kept_same (IsOther p steps x ys) (take i places) place js (c.loop-place.invariant.0 p decide)
            (λ o. false≢true (sym w.if-takes_other.false ∙ (c.takes_other.ensures p decide nobody).1 (subst (λ z. TakesOver p steps x z) (same_Some o.0 y (sym o.1 ∙ at)) o.3))),
        c.seen_for-seen.ensures.seen,
      )
    ]

pub returns : goal.returns
returns c p decide =
    let steps = c.args.steps.now in
    let x = node_of c.args.from in
    let ys = map node_of c.args.nodes.now in
    let places = c.args.places.now in
    let i = c.loop-place.place-index in
    subst (AreOthersAt p steps x ys places) (sym c.from_vec.ensures)
    (subst (λ (js : List ℕ). AreOthersAt p steps x ys js c.loop-place.taken.items) (take_all i places (let end = c.loop-place-test.false in omega (arith, end))) (c.loop-place.invariant.0 p decide))
