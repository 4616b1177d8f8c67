-- The one path from the start to a node, among all paths from the start.
use Rattle.std.specs.Prelude.{◌≡◌, ◌+◌, ◌⊎◌, ◌++◌, ◌∷◌, List, [], Option, All, Any, Contains}
use Rattle.rbac_terms.specs.Text.{Text}
use Rattle.rbac_paths.specs.NodeLists.{node_text, who_or_what}
use Rattle.rbac_paths.specs.Nodes.{NodeView, Somebody, ClusterRoleIn, OwnRole, EverythingIn}
use Rattle.rbac_paths.specs.Paths.{IsNearer, PathView}

-- a cluster role or everything is in this scope; a user or a group is in none, and a Role in the
-- namespace that its field has
abbrev pub IsIn : Option Text → NodeView → Type 0
IsIn scope (Somebody who) = Unit {0}
IsIn scope (ClusterRoleIn role there) = there ≡ scope
IsIn scope (OwnRole role) = Unit {0}
IsIn scope (EverythingIn there) = there ≡ scope

-- the node is TO: TO is who or what the node is, and a cluster role or everything is in this scope
-- (own)
abbrev pub IsTo : Text → Option Text → NodeView → Type 0
IsTo to scope y = (who_or_what y ≡ to) × IsIn scope y

-- x is the path to TO; if several nodes are TO, which takes a Role whose namespace has a slash, the
-- last of their paths
pub record IsLastTo (to : Text) (scope : Option Text) (xs : List PathView) (x : PathView) : Type 0 where
  pub listed : Contains xs x
  pub is : IsTo to scope x.node
  pub last : (y : PathView) → Contains xs y → IsTo to scope y.node → (y ≡ x) ⊎ IsNearer y x

-- the node before the first path is `from`, and the node before each other one is the node of the
-- path above it
abbrev pub IsChain : NodeView → List PathView → Type 0
IsChain from [] = Unit {0}
IsChain from (x ∷ xs) = (x.before ≡ from) × IsChain x.node xs

-- paths among xs that lead from the start to TO, in order: the last one is the path to TO, and each
-- one is the path to the node before the next one
pub record Connects (start : NodeView) (to : Text) (scope : Option Text) (xs chain : List PathView)
    : Type 0 where
  pub earlier : List PathView
  pub end : PathView
  pub ends : chain ≡ earlier ++ end ∷ []
  pub is : IsLastTo to scope xs end
  pub listed : All (Contains xs) chain
  pub joined : IsChain start chain

-- the path to TO among the paths xs of the start, step by step; nothing, if none of xs leads to TO
-- (own)
abbrev pub IsPathTo : NodeView → Text → Option Text → List PathView → List PathView → Type 0
IsPathTo start to scope xs chain = ((chain ≡ []) × (¬ Any (λ x. IsTo to scope x.node) xs))
    ⊎ Connects start to scope xs chain

-- x has one step less than y, and its node is printed as the node before y is
abbrev pub IsPrintedBefore : PathView → PathView → Type 0
IsPrintedBefore y x = (x.count + 1 ≡ y.count) × (node_text x.node ≡ node_text y.before)

-- y is the next path that is wanted, from the end: the path to TO if none is taken yet, and
-- otherwise the path to the node before the first one that is taken
abbrev pub IsWantedNext : Text → Option Text → List PathView → PathView → Type 0
IsWantedNext to scope [] y = IsTo to scope y.node
IsWantedNext to scope (x ∷ chain) y = IsPrintedBefore x y
