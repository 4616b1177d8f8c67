use Rattle.std.proofs.Common.{◌≡◌, ◌≢◌, ◌↔◌, ◌∙◌, AllPairs, Bor, Contains, List, Option, ℕ, ap, map, subst, sym}
use Rattle.std.proofs.lemmas.Result.{IfOk-weaker}
use Rattle.rbac_terms.specs.Principals.{Who, who_key}
use Rattle.rbac_model.specs.Lists.{IsAscendingBy}
use Rattle.rbac_model.specs.Unions.{who_texts}
use Rattle.rbac_ways.specs.Ways.{AreStops}
use Rattle.rbac_ways.specs.declared.graph.Stop.{Stop}
use Rattle.rbac_paths.specs.Access.{AllowsAccess, access_of}
use Rattle.rbac_paths.specs.Nodes.{node_of}
use Rattle.rbac_paths.specs.Searching.{AreJoined}
use Rattle.rbac_paths.specs.Tracing.{AreLinked, AreTraced, IsAt, IsFrom}
use Rattle.rbac_paths.specs.declared.node.Node.{Node}
use Rattle.rbac_paths.specs.declared.tracing.Direction.TheVariants as toward
use Rattle.rbac_steps.specs.declared.steps.Step.{Step}
use Rattle.rbac_paths.proofs.KeysApart.{keys_apart}
use Rattle.rbac_paths.proofs.LinesFound.{are_ways, linked_back}
use Rattle.rbac_paths.proofs.all_ways.ways_to.Goals as goal

pub search_of-requires-clause-keys : goal.search_of-requires-clause-keys
search_of-requires-clause-keys c =
    subst (λ (ws : List (Bor Who)). AllPairs (λ a b. who_key a.now ≢ who_key b.now) ws) (sym c.as_slice.ensures.value)
    (keys_apart (λ (who : Bor Who). who.now) c.in_ok-all.all.items (subst (λ (ps : List Who). IsAscendingBy who_texts ps) (sym c.in_ok-all.ensures) c.requires.ordered))

pub traced-requires-clause-joined : goal.traced-requires-clause-joined
traced-requires-clause-joined c =
    let p = c.args.policy.now in
    let joined = c.in_ok-search.search.joined in
    subst (λ (ns : List Node). AreJoined p c.as_slice-rows.result.now ns joined.grants.items joined.places.items) (sym c.as_slice-nodes.ensures.value)
    (subst (λ (ss : List Step). AreJoined p ss c.in_ok-search.search.nodes.items joined.grants.items joined.places.items) (sym (c.as_slice-rows.ensures.value ∙ c.in_ok-search.ensures.rows)) c.in_ok-search.ensures.joined)

pub traced-requires-clause-linked : goal.traced-requires-clause-linked
traced-requires-clause-linked c =
    let p = c.args.policy.now in
    let back = toward.Back c.args.access in
    let asked = access_of c.args.access in
    let stops = c.in_ok-reached.reached.stops.items in
    let turned = c.in_ok-turned.turned in
    let ys = map node_of c.in_ok-search.search.nodes.items in
    let from : IsFrom (AllowsAccess p asked) ys turned stops c.in_ok-reached.reached.order.items = record {
      starts = c.in_ok-ends.ends.items;
      exact = subst (λ (ns : List Node). (j : ℕ) → Contains c.in_ok-ends.ends.items j ↔ IsAt (AllowsAccess p asked) (map node_of ns) j) c.as_slice-nodes.ensures.value c.in_ok-ends.ensures;
      stops_are = subst (λ (js : List ℕ). AreStops turned js stops) c.as_slice-2.ensures.value c.in_ok-reached.ensures.stops;
      ordered = c.in_ok-reached.ensures.order;
    } in
    subst (λ (ns : List Node). AreLinked back p c.as_slice-rows.result.now (map node_of ns) stops) (sym c.as_slice-nodes.ensures.value)
    (subst (λ (ss : List Step). AreLinked back p ss ys stops) (sym (c.as_slice-rows.ensures.value ∙ c.in_ok-search.ensures.rows))
    (linked_back p _ c.args.steps.now ys c.in_ok-search.ensures.enough c.args.access _ c.in_ok-search.ensures.graph turned c.in_ok-turned.ensures.nodes c.in_ok-turned.ensures.edges stops _ from))

pub returns : goal.returns
returns c =
    let p = c.args.policy.now in
    let steps = c.args.steps.now in
    let back = toward.Back c.args.access in
    let asked = access_of c.args.access in
    let all = map (λ (who : Bor Who). who.now) c.as_slice.result.now in
    let ys = map node_of c.in_ok-search.search.nodes.items in
    let stops = c.in_ok-reached.reached.stops.items in
    let order = c.in_ok-reached.reached.order.items in
    let turned = c.in_ok-turned.turned in
    let come = c.in_ok-come.come.stops.items in
    let from : IsFrom (AllowsAccess p asked) ys turned stops order = record {
      starts = c.in_ok-ends.ends.items;
      exact = subst (λ (ns : List Node). (j : ℕ) → Contains c.in_ok-ends.ends.items j ↔ IsAt (AllowsAccess p asked) (map node_of ns) j) c.as_slice-nodes.ensures.value c.in_ok-ends.ensures;
      stops_are = subst (λ (js : List ℕ). AreStops turned js stops) c.as_slice-2.ensures.value c.in_ok-reached.ensures.stops;
      ordered = c.in_ok-reached.ensures.order;
    } in
    let same : all ≡ c.args.principals.now = ap (λ (ws : List (Bor Who)). map (λ (who : Bor Who). who.now) ws) c.as_slice.ensures.value ∙ c.in_ok-all.ensures in
    IfOk-weaker c.traced.result _ _
    (λ made is. (
      all,
      λ who. (subst (λ (ps : List Who). Contains ps who) same, subst (λ (ps : List Who). Contains ps who) (sym same)),
      are_ways p all steps ys c.in_ok-search.ensures.enough c.args.access _ c.in_ok-search.ensures.graph turned c.in_ok-turned.ensures.nodes c.in_ok-turned.ensures.edges stops order from come _ c.in_ok-come.ensures made.items
          (subst (λ (ss : List (Option Stop)). AreTraced back p steps ys ss stops order made.items) c.as_slice-stops.ensures.value
          (subst (λ (ss : List Step). AreTraced back p ss ys c.as_slice-stops.result.now stops order made.items) (c.as_slice-rows.ensures.value ∙ c.in_ok-search.ensures.rows)
          (subst (λ (ns : List Node). AreTraced back p c.as_slice-rows.result.now (map node_of ns) c.as_slice-stops.result.now stops order made.items) c.as_slice-nodes.ensures.value is))),
    ))
    c.traced.ensures
