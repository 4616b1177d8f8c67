use Rattle.std.proofs.Common.{◌≡◌, ◌≢◌, ◌↔◌, ◌∙◌, AllPairs, Bor, Contains, List, ap, map, subst, sym}
use Rattle.std.specs.List.{filter_map}
use Rattle.std.proofs.lemmas.Result.{IfOk-weaker}
use Rattle.rbac_terms.specs.Principals.{Who, who_key}
use Rattle.rbac_paths.specs.Nodes.{Somebody, node_of}
use Rattle.rbac_paths.specs.Paths.{ArePaths, PathView}
use Rattle.rbac_paths.specs.Principals.{IsOneWith}
use Rattle.rbac_paths.specs.Searching.{AreJoined}
use Rattle.rbac_paths.specs.Tracing.{AreLinked, AreTraced, path_by}
use Rattle.rbac_paths.specs.WaysTo.{WayView}
use Rattle.rbac_paths.specs.declared.node.Node.{Node}
use Rattle.rbac_paths.specs.declared.tracing.Direction.TheVariants as toward
use Rattle.rbac_ways.specs.declared.graph.Stop.{Stop}
use Rattle.std.specs.Prelude.{Option}
use Rattle.rbac_steps.specs.declared.steps.Step.{Step}
use Rattle.rbac_paths.proofs.LinesFound.{are_paths, linked}
use Rattle.rbac_paths.proofs.all_paths.paths.Goals as goal

pub traced-requires-clause-joined : goal.traced-requires-clause-joined
traced-requires-clause-joined c =
    let p = c.args.policy.now in
    let joined = c.in_ok-search.search.joined in
    subst (λ (ns : List Node). AreJoined p c.as_slice-rows.result.now ns joined.grants.items joined.places.items) (sym c.as_slice-nodes.ensures.value)
    (subst (λ (ss : List Step). AreJoined p ss c.in_ok-search.search.nodes.items joined.grants.items joined.places.items) (sym (c.as_slice-rows.ensures.value ∙ c.in_ok-search.ensures.rows)) c.in_ok-search.ensures.joined)

pub traced-requires-clause-linked : goal.traced-requires-clause-linked
traced-requires-clause-linked c =
    let p = c.args.policy.now in
    let who = c.args.who.now in
    let all = map (λ (who : Bor Who). who.now) c.as_slice.result.now in
    let stops = c.in_ok-reached.reached.stops.items in
    let exact = subst (λ (ws : List (Bor Who)). (other : Who) → Contains (map (λ (each : Bor Who). each.now) ws) other ↔ IsOneWith c.args.principals.now who other) (sym c.as_slice.ensures.value) c.in_ok-all.ensures.exact in
    subst (λ (ns : List Node). AreLinked toward.On p c.as_slice-rows.result.now (map node_of ns) stops) (sym c.as_slice-nodes.ensures.value)
    (subst (λ (ss : List Step). AreLinked toward.On p ss (map node_of c.in_ok-search.search.nodes.items) stops) (sym (c.as_slice-rows.ensures.value ∙ c.in_ok-search.ensures.rows))
    (linked p all c.args.steps.now _ c.in_ok-search.ensures.enough c.args.principals.now who exact _ c.in_ok-search.ensures.graph stops _ c.in_ok-reached.ensures))

pub traced-requires-clause-order : goal.traced-requires-clause-order
traced-requires-clause-order c = c.in_ok-reached.ensures.ordered

pub returns : goal.returns
returns c =
    let p = c.args.policy.now in
    let steps = c.args.steps.now in
    let who = c.args.who.now in
    let all = map (λ (who : Bor Who). who.now) c.as_slice.result.now in
    let ys = map node_of c.in_ok-search.search.nodes.items in
    let stops = c.in_ok-reached.reached.stops.items in
    let order = c.in_ok-reached.reached.order.items in
    let lines = c.in_ok-lines.lines.items in
    let exact = subst (λ (ws : List (Bor Who)). (other : Who) → Contains (map (λ (each : Bor Who). each.now) ws) other ↔ IsOneWith c.args.principals.now who other) (sym c.as_slice.ensures.value) c.in_ok-all.ensures.exact in
    let traced = subst (λ (ss : List (Option Stop)). AreTraced toward.On p steps ys ss stops order lines) c.as_slice-stops.ensures.value
    (subst (λ (ss : List Step). AreTraced toward.On p ss ys c.as_slice-stops.result.now stops order lines) (c.as_slice-rows.ensures.value ∙ c.in_ok-search.ensures.rows)
    (subst (λ (ns : List Node). AreTraced toward.On p c.as_slice-rows.result.now (map node_of ns) c.as_slice-stops.result.now stops order lines) c.as_slice-nodes.ensures.value c.in_ok-lines.ensures)) in
    let are = are_paths p all steps ys c.in_ok-search.ensures.enough c.args.principals.now who exact _ c.in_ok-search.ensures.graph stops order c.in_ok-reached.ensures lines traced in
    IfOk-weaker c.paths_by.result _ _
    (λ made is. (all, exact, subst (λ (xs : List PathView). ArePaths p all steps (Somebody who) xs) (sym (is ∙ ap (λ (ls : List WayView). filter_map path_by ls) c.as_slice-2.ensures.value)) are))
    c.paths_by.ensures
