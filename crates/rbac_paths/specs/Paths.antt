-- The paths from a principal to the nodes that it comes to.
use Rattle.std.specs.Prelude.{◌≡◌, ◌≢◌, ◌↔◌, ◌⊎◌, ◌<◌, ◌+◌, ℕ, zero, suc, List, Some, All, AllPairs, Any}
use Rattle.std.specs.Prelude.{Contains, length, slice_get}
use Rattle.std.specs.declared.cmp.Ordering.TheVariants.{Less}
use Rattle.rbac_terms.specs.Text.{text_cmp}
use Rattle.rbac_terms.specs.Principals.{Who}
use Rattle.rbac_model.specs.Policies.{PolicyView}
use Rattle.rbac_ways.specs.Ways.{GraphView, IsEdge}
use Rattle.rbac_paths.specs.Aims.{ToTakeOver}
use Rattle.rbac_paths.specs.NodeLists.{IsNode, node_text}
use Rattle.rbac_paths.specs.Nodes.{NodeView, Somebody}
use Rattle.rbac_paths.specs.Principals.{IsOneWith}
use Rattle.rbac_paths.specs.Reasons.{IsReason, ReasonView}
use Rattle.rbac_paths.specs.TakingOver.{TakesOver}
use Rattle.rbac_paths.specs.Told.{IsFirstTold}
use Rattle.rbac_steps.specs.declared.steps.Step.{Step}

-- n steps lead from a start to y
abbrev pub LeadsTo : (NodeView → NodeView → Type 0) → (NodeView → Type 0) → ℕ → NodeView → Type 0
LeadsTo GoesTo IsStart zero y = IsStart y
LeadsTo GoesTo IsStart (suc n) y = (x : NodeView) × LeadsTo GoesTo IsStart n x × GoesTo x y

-- n steps are the fewest that lead from a start to y
pub record IsFewest (GoesTo : NodeView → NodeView → Type 0) (IsStart : NodeView → Type 0) (n : ℕ)
    (y : NodeView) : Type 0 where
  pub leads : LeadsTo GoesTo IsStart n y
  pub fewest : (k : ℕ) → k < n → ¬ LeadsTo GoesTo IsStart k y

-- x is the node before y: a step goes from x to y, and n steps are the fewest that lead to x; if
-- there are several such nodes, x is the first as printed (own)
pub record IsBeforeOn (GoesTo : NodeView → NodeView → Type 0) (IsStart : NodeView → Type 0) (n : ℕ)
    (y x : NodeView) : Type 0 where
  pub fewest : IsFewest GoesTo IsStart n x
  pub goes : GoesTo x y
  pub first : (m : NodeView) → text_cmp (node_text m) (node_text x) ≡ Less
      → IsFewest GoesTo IsStart n m → ¬ GoesTo m y

-- the graph has an edge from one of these nodes to another exactly if the first takes over the
-- second by these steps
pub record IsGraphOf (p : PolicyView) (steps : List Step) (ys : List NodeView) (g : GraphView)
    : Type 0 where
  pub len : length g.takes ≡ length ys
  pub edges : (i j : ℕ) (x y : NodeView) → slice_get ys i ≡ Some x → slice_get ys j ≡ Some y
      → IsEdge g i j ↔ TakesOver p steps x y

-- one of these steps goes from x to y: x takes over y, which is a node of the policy
abbrev pub GoesTo : PolicyView → List Who → List Step → NodeView → NodeView → Type 0
GoesTo p all steps x y = IsNode p all y × TakesOver p steps x y

-- n steps lead from the start to y
abbrev pub StepsLeadTo : PolicyView → List Who → List Step → NodeView → ℕ → NodeView → Type 0
StepsLeadTo p all steps start n y = LeadsTo (GoesTo p all steps) (λ x. x ≡ start) n y

-- a path, by its end: the number of steps, the node at its end, the node before that, the last
-- step, which leads from one to the other, and the reason for this step
pub record PathView : Type 0 where
  pub count : ℕ
  pub node : NodeView
  pub before : NodeView
  pub step : Step
  pub reason : ReasonView

-- x is a path with the fewest steps from the start. If several nodes can be before its end, the
-- path has the first as printed. The last step is the first one by which this node takes over the
-- end, with the first reason
pub record IsPath (p : PolicyView) (all : List Who) (steps : List Step) (start : NodeView)
    (x : PathView) : Type 0 where
  pub others : ℕ
  pub count : x.count ≡ others + 1
  pub fewest : IsFewest (GoesTo p all steps) (λ y. y ≡ start) x.count x.node
  pub before : IsBeforeOn (GoesTo p all steps) (λ y. y ≡ start) others x.node x.before
  pub step : IsFirstTold p steps x.before x.node x.step
  pub reason : IsReason p x.before (ToTakeOver x.step x.node) x.reason

-- n is less than m, or both are the same and x is printed before y
abbrev pub IsSooner : ℕ → ℕ → NodeView → NodeView → Type 0
IsSooner n m x y = (n < m) ⊎ ((n ≡ m) × (text_cmp (node_text x) (node_text y) ≡ Less))

-- the path x has fewer steps than y, or as many, and its end is printed before that of y
abbrev pub IsNearer : PathView → PathView → Type 0
IsNearer x y = IsSooner x.count y.count x.node y.node

-- exactly one path to each node that the start comes to, except the start itself, in order of the
-- number of steps, and then of the nodes as printed (own)
pub record ArePaths (p : PolicyView) (all : List Who) (steps : List Step) (start : NodeView)
    (xs : List PathView) : Type 0 where
  pub each : All (IsPath p all steps start) xs
  pub complete : (n : ℕ) (y : NodeView) → y ≢ start → StepsLeadTo p all steps start n y
      → Any (λ x. x.node ≡ y) xs
  pub ordered : AllPairs IsNearer xs

-- the paths from a principal, if the users and groups among the nodes are these, with this
-- principal in place of one with the same key
abbrev pub ArePathsOf : PolicyView → List Who → List Step → Who → List PathView → Type 0
ArePathsOf p principals steps who xs = (all : List Who)
    × ((other : Who) → Contains all other ↔ IsOneWith principals who other)
    × ArePaths p all steps (Somebody who) xs
