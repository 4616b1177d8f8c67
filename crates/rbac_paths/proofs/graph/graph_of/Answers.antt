use Rattle.std.proofs.Common.{ℕ, List, length, map, subst, sym}
use Rattle.rbac_model.specs.Policies.{Held, PolicyView}
use Rattle.rbac_paths.specs.Deciding.{AreGrantsByBinding, ArePlaces, AreTakingGrants}
use Rattle.rbac_paths.specs.Nodes.{node_of}
use Rattle.rbac_paths.specs.Takeovers.{HaveTakeovers}
use Rattle.rbac_paths.proofs.graph.graph_of.Goals as goal

pub places_of_lists-requires : goal.places_of_lists-requires
places_of_lists-requires c =
    let have = subst (λ (h : Held). HaveTakeovers h c.args.steps.now c.in_ok-takeovers.takeovers) c.objects.ensures.held c.in_ok-takeovers.ensures in
    let taking = subst (λ (gs : List (List ℕ)). AreTakingGrants c.args.policy.now c.args.steps.now gs) (sym c.as_slice.ensures.value) (c.in_ok-grants.ensures c.args.steps.now have) in
    subst (λ (p : PolicyView). AreGrantsByBinding p c.as_slice.result.now) (sym c.requires.index) (λ n at has. ((taking n at).0 has).0)

pub joined-requires-clause-takeovers : goal.joined-requires-clause-takeovers
joined-requires-clause-takeovers c = subst (λ (h : Held). HaveTakeovers h c.args.steps.now c.in_ok-takeovers.takeovers) c.objects.ensures.held c.in_ok-takeovers.ensures

pub joined-requires-clause-grants : goal.joined-requires-clause-grants
joined-requires-clause-grants c =
    let have = subst (λ (h : Held). HaveTakeovers h c.args.steps.now c.in_ok-takeovers.takeovers) c.objects.ensures.held c.in_ok-takeovers.ensures in
    subst (λ (gs : List (List ℕ)). AreTakingGrants c.args.policy.now c.args.steps.now gs) (sym c.as_slice-2.ensures.value) (c.in_ok-grants.ensures c.args.steps.now have)

pub joined-requires-clause-places : goal.joined-requires-clause-places
joined-requires-clause-places c =
    let ys = map node_of c.args.nodes.now in
    let by_policy = subst (λ (p : PolicyView). ArePlaces p c.as_slice.result.now ys (length c.args.nodes.now) c.in_ok-places.places.items) c.requires.index c.in_ok-places.ensures in
    let by_grants = subst (λ (gs : List (List ℕ)). ArePlaces c.args.policy.now gs ys (length c.args.nodes.now) c.in_ok-places.places.items) c.as_slice.ensures.value by_policy in
    let by_slice = subst (λ (gs : List (List ℕ)). ArePlaces c.args.policy.now gs ys (length c.args.nodes.now) c.in_ok-places.places.items) (sym c.as_slice-2.ensures.value) by_grants in
    subst (λ (ps : List (List ℕ)). ArePlaces c.args.policy.now c.as_slice-2.result.now ys (length c.args.nodes.now) ps) (sym c.as_slice-3.ensures.value) by_slice

pub returns-clause-grants : goal.returns-clause-grants
returns-clause-grants c =
    c.in_ok-grants.ensures c.args.steps.now (subst (λ (h : Held). HaveTakeovers h c.args.steps.now c.in_ok-takeovers.takeovers) c.objects.ensures.held c.in_ok-takeovers.ensures)

pub returns-clause-places : goal.returns-clause-places
returns-clause-places c =
    let ys = map node_of c.args.nodes.now in
    let by_policy = subst (λ (p : PolicyView). ArePlaces p c.as_slice.result.now ys (length c.args.nodes.now) c.in_ok-places.places.items) c.requires.index c.in_ok-places.ensures in
    subst (λ (gs : List (List ℕ)). ArePlaces c.args.policy.now gs ys (length c.args.nodes.now) c.in_ok-places.places.items) c.as_slice.ensures.value by_policy
