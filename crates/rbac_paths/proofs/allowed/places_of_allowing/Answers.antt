use Rattle.std.proofs.Common.{◌≡◌, ◌∙◌, Some, arith, length, map, slice_get, subst, sym}
use Rattle.std.proofs.lemmas.Bool.{false≢true}
use Rattle.std.proofs.lemmas.List.{length-map}
use Rattle.std.proofs.lemmas.Option.{slice_get_within}
use Rattle.rbac_paths.specs.Access.{AllowsAccess, access_of}
use Rattle.rbac_paths.specs.Allowed.{MarkAllowing}
use Rattle.rbac_paths.specs.Nodes.{node_of}
use Rattle.rbac_paths.specs.Told.{HasItsRole}
use Rattle.rbac_paths.specs.Tracing.{IsAt}
use Rattle.rbac_paths.proofs.Mapped.{mapped_at, mapped_has}
use Rattle.rbac_paths.proofs.LinesTold.{all_below, below_more, below_none, below_same, is_here}
use Rattle.rbac_paths.proofs.allowed.places_of_allowing.Goals as goal
use Rattle.rbac_paths.proofs.allowed.places_of_allowing.Goals.{then-branch+in_ok-push, else-branch}

pub loop-place-init : goal.loop-place-init
loop-place-init c = below_none (IsAt (AllowsAccess c.args.policy.now (access_of c.args.access)) (map node_of c.args.nodes.now)) _ c.new-places.ensures.items

pub allows-requires-clause-role : goal.allows-requires-clause-role
allows-requires-clause-role c = mapped_has node_of (HasItsRole c.args.policy.now.held) c.args.nodes.now c.loop-place.place c.index-nodes-place.result c.loop-place-test.true c.index-nodes-place.is c.requires.held

pub loop-place-preserved : goal.loop-place-preserved
loop-place-preserved c =
    let Is = AllowsAccess c.args.policy.now (access_of c.args.access) in
    let ys = map node_of c.args.nodes.now in
    let place = c.loop-place.place in
    let y = node_of c.index-nodes-place.result in
    let js = c.loop-place.places.items in
    let at : slice_get ys place ≡ Some y = mapped_at node_of c.args.nodes.now place c.index-nodes-place.result c.loop-place-test.true c.index-nodes-place.is in
    elim c.if-branch.branch [
      | then-branch+in_ok-push w ↦ rw (w.places-is, w.in_ok-push.ensures.items)
          (below_more (IsAt Is ys) place js c.loop-place.invariant (y, at, c.in_ok-allows.ensures.0 w.if-branch.true))
      | else-branch w ↦ rw w.places-is
          (below_same (IsAt Is ys) place js c.loop-place.invariant
          (λ has. false≢true (sym w.if-branch.false ∙ c.in_ok-allows.ensures.1 (is_here Is ys place y at has))))
    ]

pub returns : goal.returns
returns c =
    let Is = AllowsAccess c.args.policy.now (access_of c.args.access) in
    let ys = map node_of c.args.nodes.now in
    let place = c.loop-place.place in
    let test = c.loop-place-test.false in
    let low = c.loop-place.auto.place-end in
    let end : length ys ≡ place = length-map c.args.nodes.now node_of ∙ omega (arith, test, low) in
    all_below (IsAt Is ys) place c.loop-place.places.items (λ j has. (let within = slice_get_within ys j has.0 has.1 in omega (arith, within, end))) c.loop-place.invariant
