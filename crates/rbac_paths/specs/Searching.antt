-- The nodes among which paths and ways are searched, and what decides what they take over.
use Rattle.std.specs.Prelude.{◌≡◌, ℕ, List, All, AllPairs, Contains, length, map}
use Rattle.std.specs.declared.cmp.Ordering.TheVariants.{Less}
use Rattle.rbac_terms.specs.Text.{text_cmp}
use Rattle.rbac_terms.specs.Principals.{Who}
use Rattle.rbac_model.specs.Policies.{PolicyView}
use Rattle.rbac_paths.specs.Deciding.{ArePlaces, AreTakingGrants}
use Rattle.rbac_paths.specs.NodeLists.{IsNode, node_text}
use Rattle.rbac_paths.specs.Nodes.{NodeView, Somebody, node_of}
use Rattle.rbac_paths.specs.Paths.{GoesTo}
use Rattle.rbac_paths.specs.Told.{HasItsRole}
use Rattle.rbac_paths.specs.declared.node.Node.{Node}
use Rattle.rbac_steps.specs.declared.steps.Step.{Step}

-- the nodes are in order as printed
abbrev pub AreOrdered : List NodeView → Type 0
AreOrdered ys = AllPairs (λ y z. text_cmp (node_text y) (node_text z) ≡ Less) ys

-- nodes of the policy, in order as printed: all of these users and groups, and whatever one of the
-- nodes takes over
pub record AreEnough (p : PolicyView) (all : List Who) (steps : List Step) (ys : List NodeView)
    : Type 0 where
  pub ordered : AreOrdered ys
  pub nodes : (y : NodeView) → Contains ys y → IsNode p all y
  pub somebody : (who : Who) → Contains all who → Contains ys (Somebody who)
  pub closed : (x y : NodeView) → Contains ys x → GoesTo p all steps x y → Contains ys y

-- the nodes are in order as printed, their roles are held, and these grants, at these places, decide
-- what they take over
pub record AreJoined (p : PolicyView) (steps : List Step) (nodes : List Node)
    (numbers at : List (List ℕ)) : Type 0 where
  pub ordered : AreOrdered (map node_of nodes)
  pub held : All (HasItsRole p.held) (map node_of nodes)
  pub grants : AreTakingGrants p steps numbers
  pub places : ArePlaces p numbers (map node_of nodes) (length nodes) at
