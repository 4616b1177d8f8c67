use Rattle.std.proofs.Common.{◌≡◌, ◌∙◌, All, Bor, List, length, map, subst, sym, ℕ}
use Rattle.rbac_terms.specs.Principals.{Who}
use Rattle.rbac_terms.specs.Text.{Text}
use Rattle.rbac_model.specs.Policies.{PolicyView}
use Rattle.rbac_paths.specs.Deciding.{ArePlaces, AreTakingGrants}
use Rattle.rbac_paths.specs.NodeLists.{AreNodes}
use Rattle.rbac_paths.specs.Nodes.{NodeView, node_of}
use Rattle.rbac_paths.specs.Paths.{IsGraphOf}
use Rattle.rbac_paths.specs.Told.{HasItsRole}
use Rattle.rbac_paths.specs.declared.node.Node.{Node}
use Rattle.rbac_steps.specs.declared.steps.Step.{Step}
use Rattle.rbac_paths.proofs.Enough.{enough, held, in_order}
use Rattle.rbac_paths.proofs.searching.search_of.Goals as goal

-- what is said of the names as slices is said of the names
named : (p : PolicyView) (all : List Who) (ys : List NodeView) (listed names at_listed at_names : List Text) → at_listed ≡ listed → at_names ≡ names → AreNodes p all at_listed at_names ys → AreNodes p all listed names ys
named p all ys listed names at_listed at_names one other are =
    subst (λ (ts : List Text). AreNodes p all listed ts ys) other (subst (λ (ts : List Text). AreNodes p all ts at_names ys) one are)

pub nodes_of-requires-clause-listed : goal.nodes_of-requires-clause-listed
nodes_of-requires-clause-listed c = rw c.as_slice-listed.ensures.value (in_order c.in_ok-names.names.listed.items c.in_ok-names.ensures.names.listed_ascending)

pub nodes_of-requires-clause-names : goal.nodes_of-requires-clause-names
nodes_of-requires-clause-names c = rw c.as_slice-named.ensures.value (in_order c.in_ok-names.names.all.items c.in_ok-names.ensures.names.ascending)

pub graph_of-requires-clause-held : goal.graph_of-requires-clause-held
graph_of-requires-clause-held c =
    let p = c.args.policy.now in
    let all = map (λ (who : Bor Who). who.now) c.args.all.now in
    let ys = map node_of c.in_ok-nodes.nodes.items in
    subst (λ (ns : List Node). All (HasItsRole p.held) (map node_of ns)) (sym c.as_slice-2.ensures.value)
    (held p all c.as_slice-listed.result.now c.as_slice-named.result.now ys c.in_ok-nodes.ensures)

pub returns-clause-enough : goal.returns-clause-enough
returns-clause-enough c =
    let p = c.args.policy.now in
    let all = map (λ (who : Bor Who). who.now) c.args.all.now in
    let ys = map node_of c.in_ok-nodes.nodes.items in
    let listed = c.in_ok-names.names.listed.items in
    let names = c.in_ok-names.names.all.items in
    let are = named p all ys listed names c.as_slice-listed.result.now c.as_slice-named.result.now c.as_slice-listed.ensures.value c.as_slice-named.ensures.value c.in_ok-nodes.ensures in
    enough p all listed names ys are c.in_ok-names.ensures.policy c.args.steps.now c.in_ok-names.ensures.names

pub returns-clause-graph : goal.returns-clause-graph
returns-clause-graph c =
    let p = c.args.policy.now in
    let g = c.in_ok-joined.joined.graph in
    subst (λ (ss : List Step). IsGraphOf p ss (map node_of c.in_ok-nodes.nodes.items) g) (c.as_slice.ensures.value ∙ c.in_ok-rows.ensures)
    (subst (λ (ns : List Node). IsGraphOf p c.as_slice.result.now (map node_of ns) g) c.as_slice-2.ensures.value c.in_ok-joined.ensures.graph)

pub returns-clause-joined : goal.returns-clause-joined
returns-clause-joined c =
    let p = c.args.policy.now in
    let all = map (λ (who : Bor Who). who.now) c.args.all.now in
    let ys = map node_of c.in_ok-nodes.nodes.items in
    let grants = c.in_ok-joined.joined.grants.items in
    record {
      ordered = c.in_ok-nodes.ensures.ordered;
      held = held p all c.as_slice-listed.result.now c.as_slice-named.result.now ys c.in_ok-nodes.ensures;
      grants = subst (λ (ss : List Step). AreTakingGrants p ss grants) (c.as_slice.ensures.value ∙ c.in_ok-rows.ensures) c.in_ok-joined.ensures.grants;
      places = subst (λ (ns : List Node). ArePlaces p grants (map node_of ns) (length ns) c.in_ok-joined.joined.places.items) c.as_slice-2.ensures.value c.in_ok-joined.ensures.places;
    }
