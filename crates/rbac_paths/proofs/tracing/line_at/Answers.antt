use Rattle.std.proofs.Common.{◌≡◌, ◌<◌, ◌∙◌, All, List, Some, ap, arith, length, map, refl, rules, slice_get, subst, sym, ℕ}
use Rattle.std.proofs.lemmas.List.{length-map}
use Rattle.rbac_paths.specs.Access.{AllowsAccess, access_of}
use Rattle.rbac_paths.specs.Nodes.{NodeView, node_of}
use Rattle.rbac_paths.specs.Reasons.{reason_view}
use Rattle.rbac_paths.specs.TakingOver.{TakesOver}
use Rattle.rbac_paths.specs.Told.{HasItsRole}
use Rattle.rbac_paths.specs.Tracing.{BeginsAt, BeginsBy, IsTold, taker}
use Rattle.rbac_paths.specs.declared.node.Node.{Node}
use Rattle.rbac_paths.specs.declared.tracing.Direction.{Direction}
use Rattle.rbac_paths.proofs.LinesTold.{is_here, matched_none, matched_some, taker_at, taker_has, taker_of, takes_along, unlisted}
use Rattle.rbac_paths.proofs.Mapped.{mapped_at, mapped_has}
use Rattle.rbac_paths.proofs.tracing.line_at.Goals as goal

-- a place of the nodes' views is one of the nodes
low_of : (nodes : List Node) (j : ℕ) → j < length (map node_of nodes) → j < length nodes
low_of nodes j low = let len = length-map nodes node_of in omega (arith, low, len)

pub bounds-nodes-place : goal.bounds-nodes-place
bounds-nodes-place c = low_of c.args.nodes.now c.args.place c.requires.linked.here

pub offset_bounds-nodes-place : goal.offset_bounds-nodes-place
offset_bounds-nodes-place c = let within = low_of c.args.nodes.now c.args.place c.requires.linked.here in search rules

pub bounds-nodes-stop : goal.bounds-nodes-stop
bounds-nodes-stop c = low_of c.args.nodes.now c.args.stop.before c.requires.linked.before

pub offset_bounds-nodes-stop : goal.offset_bounds-nodes-stop
offset_bounds-nodes-stop c = let within = low_of c.args.nodes.now c.args.stop.before c.requires.linked.before in search rules

pub returns-in_default : goal.returns-in_default
returns-in_default c = unlisted c.args.direction c.args.stop (omega (arith, c.if-stop-eq0.true)) c.in_default.not-Back

pub reason_of-requires-clause-role : goal.reason_of-requires-clause-role
reason_of-requires-clause-role c =
    mapped_has node_of (HasItsRole c.args.policy.now.held) c.args.nodes.now c.args.place c.index-nodes-place.result (low_of c.args.nodes.now c.args.place c.requires.linked.here) c.index-nodes-place.is c.requires.held

pub returns-in_default-2 : goal.returns-in_default-2
returns-in_default-2 c =
    let p = c.args.policy.now in
    let nodes = c.args.nodes.now in
    let node = c.index-nodes-place.result in
    let asked = access_of c.in-Back.access in
    let here = mapped_at node_of nodes c.args.place node (low_of nodes c.args.place c.requires.linked.here) c.index-nodes-place.is in
    let begins = subst (λ (d : Direction). BeginsAt d p (map node_of nodes) c.args.place) c.in-Back.is (c.requires.linked.begins (omega (arith, c.if-stop-eq0.true))) in
    absurd (matched_none c.in_ok-reason.field-0 _ _ c.in_default-2.not-Some c.in_ok-reason.ensures (is_here (AllowsAccess p asked) (map node_of nodes) c.args.place (node_of node) here begins))

pub returns-then-stop-eq0 : goal.returns-then-stop-eq0
returns-then-stop-eq0 c =
    let p = c.args.policy.now in
    let nodes = c.args.nodes.now in
    let node = c.index-nodes-place.result in
    let none : c.args.stop.edges ≡ 0 = omega (arith, c.if-stop-eq0.true) in
    record {
      count = sym none;
      node = mapped_at node_of nodes c.args.place node (low_of nodes c.args.place c.requires.linked.here) c.index-nodes-place.is;
      next = (none, subst (λ (d : Direction). BeginsBy d p (node_of node) (reason_view c.in-Some.reason)) (sym c.in-Back.is) (matched_some c.in_ok-reason.field-0 _ _ c.in-Some.reason c.in-Some.is c.in_ok-reason.ensures));
    }

pub first_step-requires-clause-role : goal.first_step-requires-clause-role
first_step-requires-clause-role c =
    let nodes = c.args.nodes.now in
    let HasRole : Node → Type 0 = λ n. HasItsRole c.args.policy.now.held (node_of n) in
    let before = mapped_has node_of (HasItsRole c.args.policy.now.held) nodes c.args.stop.before c.index-nodes-stop.result (low_of nodes c.args.stop.before c.requires.linked.before) c.index-nodes-stop.is c.requires.held in
    let here = mapped_has node_of (HasItsRole c.args.policy.now.held) nodes c.args.place c.index-nodes-place.result (low_of nodes c.args.place c.requires.linked.here) c.index-nodes-place.is c.requires.held in
    subst HasRole (sym c.taker-from.ensures) (taker_has c.args.direction HasRole c.index-nodes-stop.result c.index-nodes-place.result before here)

pub first_step-requires-clause-known : goal.first_step-requires-clause-known
first_step-requires-clause-known c =
    let d = c.args.direction in
    let nodes = c.args.nodes.now in
    let ys = map node_of nodes in
    let before = c.index-nodes-stop.result in
    let node = c.index-nodes-place.result in
    let there = mapped_at node_of nodes c.args.stop.before before (low_of nodes c.args.stop.before c.requires.linked.before) c.index-nodes-stop.is in
    let here = mapped_at node_of nodes c.args.place node (low_of nodes c.args.place c.requires.linked.here) c.index-nodes-place.is in
    let from : node_of c.taker-from.result ≡ taker d (node_of before) (node_of node) = ap node_of c.taker-from.ensures ∙ taker_of d before node in
    c.requires.known (node_of c.taker-from.result) (subst (λ (k : ℕ). slice_get ys k ≡ Some (node_of c.taker-from.result)) (sym c.requires.place)
    (taker_at d ys c.args.stop.before c.args.place (node_of before) (node_of node) there here ∙ ap (λ (y : NodeView). Some y) (sym from)))

pub returns-in_default-3 : goal.returns-in_default-3
returns-in_default-3 c =
    let d = c.args.direction in
    let p = c.args.policy.now in
    let steps = c.args.steps.now in
    let nodes = c.args.nodes.now in
    let before = c.index-nodes-stop.result in
    let node = c.index-nodes-place.result in
    let there = mapped_at node_of nodes c.args.stop.before before (low_of nodes c.args.stop.before c.requires.linked.before) c.index-nodes-stop.is in
    let here = mapped_at node_of nodes c.args.place node (low_of nodes c.args.place c.requires.linked.here) c.index-nodes-place.is in
    let from : node_of c.taker-from.result ≡ taker d (node_of before) (node_of node) = ap node_of c.taker-from.ensures ∙ taker_of d before node in
    let to : node_of c.taker-to.result ≡ taker d (node_of node) (node_of before) = ap node_of c.taker-to.ensures ∙ taker_of d node before in
    let takes = takes_along p steps (map node_of nodes) d c.args.stop.before c.args.place (node_of before) (node_of node) there here (c.requires.linked.takes (λ none. (let not = c.if-stop-eq0.false in omega (arith, none, not)))) in
    absurd (matched_none c.in_ok-step.field-0 _ _ c.in_default-3.not-Some c.in_ok-step.ensures
    (subst (λ (z : NodeView). TakesOver p steps z (node_of c.taker-to.result)) (sym from) (subst (λ (z : NodeView). TakesOver p steps (taker d (node_of before) (node_of node)) z) (sym to) takes)))

pub returns : goal.returns
returns c =
    let d = c.args.direction in
    let p = c.args.policy.now in
    let steps = c.args.steps.now in
    let nodes = c.args.nodes.now in
    let before = c.index-nodes-stop.result in
    let node = c.index-nodes-place.result in
    let from : node_of c.taker-from.result ≡ taker d (node_of before) (node_of node) = ap node_of c.taker-from.ensures ∙ taker_of d before node in
    let to : node_of c.taker-to.result ≡ taker d (node_of node) (node_of before) = ap node_of c.taker-to.ensures ∙ taker_of d node before in
    let told = matched_some c.in_ok-step.field-0 _ _ _ c.in-Some-2.is c.in_ok-step.ensures in
    record {
      count = refl;
      node = mapped_at node_of nodes c.args.place node (low_of nodes c.args.place c.requires.linked.here) c.index-nodes-place.is;
      next = (
        λ none. (let not = c.if-stop-eq0.false in omega (arith, none, not)),
        mapped_at node_of nodes c.args.stop.before before (low_of nodes c.args.stop.before c.requires.linked.before) c.index-nodes-stop.is,
        subst (λ (z : NodeView). IsTold p steps c.in-Some-2.step (reason_view c.in-Some-2.reason) (taker d (node_of before) (node_of node)) z) to
            (subst (λ (z : NodeView). IsTold p steps c.in-Some-2.step (reason_view c.in-Some-2.reason) z (node_of c.taker-to.result)) from told),
      );
    }
