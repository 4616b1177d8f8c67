use Rattle.std.proofs.Common.{◌≡◌, ◌∙◌, ◌∷◌, ◌+◌, ◌++◌, ◌<◌, ◌⊎◌, [], List, None, Option, Some, ℕ, ap, arith, get_or, length, map, rules, slice_get, subst, sym, take}
use Rattle.std.proofs.lemmas.List.{get_or_default, length-map, take_all, take_more}
use Rattle.std.proofs.lemmas.Option.{slice_get_within}
use Rattle.rbac_model.specs.Policies.{PolicyView}
use Rattle.rbac_ways.specs.Ways.{AreInOrder}
use Rattle.rbac_ways.specs.declared.graph.Stop.{Stop}
use Rattle.rbac_paths.specs.Joints.{DecidingView}
use Rattle.rbac_paths.specs.Nodes.{node_of}
use Rattle.rbac_paths.specs.Told.{HasItsRole}
use Rattle.rbac_paths.specs.Tracing.{AreLinked, AreTraced, IsLineAt, IsLinkedAt, IsPassed, taker}
use Rattle.rbac_paths.specs.WaysTo.{IsShorter}
use Rattle.rbac_paths.specs.declared.node.Node.{Node}
use Rattle.rbac_paths.specs.declared.tracing.Direction.{Direction}
use Rattle.rbac_steps.specs.declared.steps.Step.{Step}
use Rattle.rbac_paths.proofs.LinesTold.{deciding_there, line_there, matched_none, matched_some, met_before, passed_none, shorter, taker_has, told_more, told_none, told_same}
use Rattle.rbac_paths.proofs.Mapped.{mapped_at, mapped_has}
use Rattle.rbac_paths.proofs.tracing.traced.Goals as goal
use Rattle.rbac_paths.proofs.tracing.traced.Goals.{in-Some-line+in_ok-push, in_default-line, then-known-from+in_ok-known, else-known-from}

-- the stop that was read is linked, and the node that takes the step is there
link_of : (d : Direction) (p : PolicyView) (steps : List Step) (nodes : List Node) (stops slice : List (Option Stop)) → slice ≡ stops → AreLinked d p steps (map node_of nodes) stops → (j : ℕ) (s : Stop) → get_or slice j None ≡ Some s
    → IsLinkedAt d p steps (map node_of nodes) j s × (get_or stops j None ≡ Some s)
link_of d p steps nodes stops slice same linked j s read = let at = subst (λ (ss : List (Option Stop)). get_or ss j None ≡ Some s) same read in (linked j s at, at)

low_of : (d : Direction) (p : PolicyView) (steps : List Step) (nodes : List Node) (stops slice : List (Option Stop)) → slice ≡ stops → AreLinked d p steps (map node_of nodes) stops → (j : ℕ) (s : Stop) → get_or slice j None ≡ Some s
    → (from : ℕ) → from ≡ taker d s.before j → from < length nodes
low_of d p steps nodes stops slice same linked j s read from is =
    let link = (link_of d p steps nodes stops slice same linked j s read).0 in
    let within : taker d s.before j < length (map node_of nodes) = taker_has d (λ k. k < length (map node_of nodes)) s.before j link.before link.here in
    let len = length-map nodes node_of in
    omega (arith, within, len, is)

pub loop-place-init : goal.loop-place-init
loop-place-init c =
    let nodes = c.args.nodes.now in
    let stops = c.args.reached.now.stops.items in
    record {
      lines = told_none (IsLineAt c.args.direction c.args.policy.now c.args.steps.now (map node_of nodes) c.args.come.now stops) (IsPassed c.args.direction c.args.come.now stops) IsShorter _ c.new-lines.ensures.items;
      known = λ x there. absurd (let low = slice_get_within (map node_of nodes) c.none-known.result.place x there in let len = length-map nodes node_of in let past = c.none-known.ensures in omega (arith, low, len, past));
    }

pub loop-place-preserved-in_default : goal.loop-place-preserved-in_default
loop-place-preserved-in_default c =
    let d = c.args.direction in
    let come = c.args.come.now in
    let stops = c.args.reached.now.stops.items in
    let items = c.as_slice-place-items.result.now in
    let i = c.loop-place.place-index in
    let place = get_or items i 0 in
    let none = subst (λ (ss : List (Option Stop)). (get_or come place None ≡ None) ⊎ (get_or ss place None ≡ None)) c.as_slice-stops.ensures.value (matched_none c.stop_at.result _ _ c.in_default.not-Some c.stop_at.ensures) in
    record {
      lines = subst (λ (js : List ℕ). AreTraced d c.args.policy.now c.args.steps.now (map node_of c.args.nodes.now) come stops js c.loop-place.lines.items) (sym (take_more items i 0 c.loop-place-test.true))
          (told_same (IsLineAt d c.args.policy.now c.args.steps.now (map node_of c.args.nodes.now) come stops) (IsPassed d come stops) IsShorter (take i items) place c.loop-place.lines.items c.loop-place.invariant.lines (passed_none d come stops place none));
      known = c.loop-place.invariant.known;
    }

pub bounds-nodes-from : goal.bounds-nodes-from
bounds-nodes-from c = low_of c.args.direction c.args.policy.now c.args.steps.now c.args.nodes.now c.args.reached.now.stops.items c.as_slice-stops.result.now c.as_slice-stops.ensures.value c.requires.linked (get_or c.as_slice-place-items.result.now c.loop-place.place-index 0) c.in-Some.stop.now c.in-Some.ensures.1 c.taker-from.result c.taker-from.ensures

pub offset_bounds-nodes-from : goal.offset_bounds-nodes-from
offset_bounds-nodes-from c = let within = low_of c.args.direction c.args.policy.now c.args.steps.now c.args.nodes.now c.args.reached.now.stops.items c.as_slice-stops.result.now c.as_slice-stops.ensures.value c.requires.linked (get_or c.as_slice-place-items.result.now c.loop-place.place-index 0) c.in-Some.stop.now c.in-Some.ensures.1 c.taker-from.result c.taker-from.ensures in search rules

pub deciding_at-requires-clause-role : goal.deciding_at-requires-clause-role
deciding_at-requires-clause-role c =
    mapped_has node_of (HasItsRole c.args.policy.now.held) c.args.nodes.now c.taker-from.result c.index-nodes-from.result
    (low_of c.args.direction c.args.policy.now c.args.steps.now c.args.nodes.now c.args.reached.now.stops.items c.as_slice-stops.result.now c.as_slice-stops.ensures.value c.requires.linked (get_or c.as_slice-place-items.result.now c.loop-place.place-index 0) c.in-Some.stop.now c.in-Some.ensures.1 c.taker-from.result c.taker-from.ensures) c.index-nodes-from.is c.requires.joined.held

pub deciding_at-requires-clause-grants : goal.deciding_at-requires-clause-grants
deciding_at-requires-clause-grants c = λ n at has. ((c.requires.joined.grants n at).0 has).0

pub line_at-requires-clause-known : goal.line_at-requires-clause-known
line_at-requires-clause-known c =
    let p = c.args.policy.now in
    let steps = c.args.steps.now in
    let ys = map node_of c.args.nodes.now in
    let from = c.taker-from.result in
    let low = low_of c.args.direction c.args.policy.now c.args.steps.now c.args.nodes.now c.args.reached.now.stops.items c.as_slice-stops.result.now c.as_slice-stops.ensures.value c.requires.linked (get_or c.as_slice-place-items.result.now c.loop-place.place-index 0) c.in-Some.stop.now c.in-Some.ensures.1 c.taker-from.result c.taker-from.ensures in
    let x = node_of c.index-nodes-from.result in
    let here = mapped_at node_of c.args.nodes.now from c.index-nodes-from.result low c.index-nodes-from.is in
    elim c.if-known-from.branch [
      | then-known-from+in_ok-known w ↦ rw w.known-is (deciding_there p steps ys w.in_ok-known.known from x here w.in_ok-known.ensures.place
          (w.in_ok-known.ensures.deciding steps (length c.args.made.now.grants.items + from) c.requires.joined.grants (omega arith) (c.requires.joined.places.each from x low here)))
      | else-known-from w ↦ rw w.known-is c.loop-place.invariant.known
    ]

pub line_at-requires-clause-place : goal.line_at-requires-clause-place
line_at-requires-clause-place c =
    elim c.if-known-from.branch [
      | then-known-from+in_ok-known w ↦ rw w.known-is (w.in_ok-known.ensures.place ∙ c.taker-from.ensures)
      | else-known-from w ↦ rw w.known-is (sym (ap (λ (k : DecidingView). k.place) c.known.view_is) ∙ w.if-known-from.false ∙ c.taker-from.ensures)
    ]

pub line_at-requires-clause-linked : goal.line_at-requires-clause-linked
line_at-requires-clause-linked c = (link_of c.args.direction c.args.policy.now c.args.steps.now c.args.nodes.now c.args.reached.now.stops.items c.as_slice-stops.result.now c.as_slice-stops.ensures.value c.requires.linked (get_or c.as_slice-place-items.result.now c.loop-place.place-index 0) c.in-Some.stop.now c.in-Some.ensures.1).0

pub loop-place-preserved : goal.loop-place-preserved
loop-place-preserved c =
    let d = c.args.direction in
    let come = c.args.come.now in
    let stops = c.args.reached.now.stops.items in
    let items = c.as_slice-place-items.result.now in
    let i = c.loop-place.place-index in
    let place = get_or items i 0 in
    let lines = c.loop-place.lines.items in
    let s = c.in-Some.stop.now in
    let p = c.args.policy.now in
    let steps = c.args.steps.now in
    let ys = map node_of c.args.nodes.now in
    let from = c.taker-from.result in
    let low = low_of c.args.direction c.args.policy.now c.args.steps.now c.args.nodes.now c.args.reached.now.stops.items c.as_slice-stops.result.now c.as_slice-stops.ensures.value c.requires.linked (get_or c.as_slice-place-items.result.now c.loop-place.place-index 0) c.in-Some.stop.now c.in-Some.ensures.1 c.taker-from.result c.taker-from.ensures in
    let x = node_of c.index-nodes-from.result in
    let here = mapped_at node_of c.args.nodes.now from c.index-nodes-from.result low c.index-nodes-from.is in
    let in_order = subst (λ (order : List ℕ). AreInOrder stops order) (sym c.as_slice-place-items.ensures.value) c.requires.order in
    let later = met_before stops items in_order i place c.loop-place-test.true (get_or_default items i 0 place c.loop-place-test.true) in
    let at = (link_of c.args.direction c.args.policy.now c.args.steps.now c.args.nodes.now c.args.reached.now.stops.items c.as_slice-stops.result.now c.as_slice-stops.ensures.value c.requires.linked (get_or c.as_slice-place-items.result.now c.loop-place.place-index 0) c.in-Some.stop.now c.in-Some.ensures.1).1 in
    let line = line_there d p steps ys come stops place s c.in-Some.ensures.0 at c.in_ok-line.line c.in_ok-line.ensures in
    let more : AreTraced d p steps ys come stops (take i items ++ place ∷ []) c.match-line.lines.items = elim c.match-line.branch [
      | in-Some-line+in_ok-push w ↦ rw (w.lines-is, w.in_ok-push.ensures.items)
          (let is = matched_some c.in_ok-line.line (IsPassed d come stops place) (IsLineAt d p steps ys come stops place) _ w.in-Some-line.is line in
          told_more (IsLineAt d p steps ys come stops) (IsPassed d come stops) IsShorter (take i items) place lines c.loop-place.invariant.lines _ is
          (λ j z had that. shorter p steps ys c.requires.joined.ordered d come stops j place z _ (later j had) that is))
      | in_default-line w ↦ rw w.lines-is
          (told_same (IsLineAt d p steps ys come stops) (IsPassed d come stops) IsShorter (take i items) place lines c.loop-place.invariant.lines
          (matched_none c.in_ok-line.line (IsPassed d come stops place) (IsLineAt d p steps ys come stops place) w.in_default-line.not-Some line))
    ] in
    record {
      lines = subst (λ (js : List ℕ). AreTraced d p steps ys come stops js c.match-line.lines.items) (sym (take_more items i 0 c.loop-place-test.true)) more;
      known = elim c.if-known-from.branch [
        | then-known-from+in_ok-known w ↦ rw w.known-is (deciding_there p steps ys w.in_ok-known.known from x here w.in_ok-known.ensures.place
            (w.in_ok-known.ensures.deciding steps (length c.args.made.now.grants.items + from) c.requires.joined.grants (omega arith) (c.requires.joined.places.each from x low here)))
        | else-known-from w ↦ rw w.known-is c.loop-place.invariant.known
      ];
    }

pub returns : goal.returns
returns c =
    subst (λ (js : List ℕ). AreTraced c.args.direction c.args.policy.now c.args.steps.now (map node_of c.args.nodes.now) c.args.come.now c.args.reached.now.stops.items js c.loop-place.lines.items)
    (take_all c.loop-place.place-index c.as_slice-place-items.result.now c.loop-place-test.false ∙ c.as_slice-place-items.ensures.value) c.loop-place.invariant.lines
