use Rattle.std.proofs.Common.{◌≡◌, ◌∙◌, Some, arith, length, map, slice_get, sym}
use Rattle.std.proofs.lemmas.Bool.{false≢true}
use Rattle.std.proofs.lemmas.List.{length-map}
use Rattle.std.proofs.lemmas.Option.{slice_get_within}
use Rattle.rbac_paths.specs.Nodes.{node_of}
use Rattle.rbac_paths.specs.Tracing.{IsAt}
use Rattle.rbac_paths.specs.Seeking.{IsSought}
use Rattle.rbac_paths.proofs.Mapped.{mapped_at}
use Rattle.rbac_paths.proofs.LinesTold.{all_below, below_more, below_same, is_here}
use Rattle.rbac_paths.proofs.seeking.places_of.Goals as goal
use Rattle.rbac_paths.proofs.seeking.places_of.Goals.{then-is_sought+in_ok-push, else-is_sought}

pub loop-place-preserved : goal.loop-place-preserved
loop-place-preserved c =
    let ys = map node_of c.args.nodes.now in
    let place = c.loop-place.place in
    let y = node_of c.index-nodes-place.result in
    let js = c.loop-place.places.items in
    let at : slice_get ys place ≡ Some y = mapped_at node_of c.args.nodes.now place c.index-nodes-place.result c.loop-place-test.true c.index-nodes-place.is in
    elim c.if-is_sought.branch [
      | then-is_sought+in_ok-push w ↦ rw (w.places-is, w.in_ok-push.ensures.items)
          (below_more (IsAt (IsSought c.args.sought) ys) place js c.loop-place.invariant (y, at, c.is_sought.ensures.0 w.if-is_sought.true))
      | else-is_sought w ↦ rw w.places-is
          (below_same (IsAt (IsSought c.args.sought) ys) place js c.loop-place.invariant
          (λ has. false≢true (sym w.if-is_sought.false ∙ c.is_sought.ensures.1 (is_here (IsSought c.args.sought) ys place y at has))))
    ]

pub returns : goal.returns
returns c =
    let ys = map node_of c.args.nodes.now in
    let place = c.loop-place.place in
    let test = c.loop-place-test.false in
    let low = c.loop-place.auto.place-end in
    let end : length ys ≡ place = length-map c.args.nodes.now node_of ∙ omega (arith, test, low) in
    all_below (IsAt (IsSought c.args.sought) ys) place c.loop-place.places.items (λ j has. (let within = slice_get_within ys j has.0 has.1 in omega (arith, within, end))) c.loop-place.invariant
