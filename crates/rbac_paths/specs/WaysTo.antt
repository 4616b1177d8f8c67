-- The ways to a request: from each node that a user or a group comes to, to a node that allows it.
use Rattle.std.specs.Prelude.{◌≡◌, ◌↔◌, ◌+◌, ℕ, List, Option, All, AllPairs, Any, Contains, MatchOption}
use Rattle.rbac_terms.specs.Principals.{Who}
use Rattle.rbac_model.specs.Policies.{PolicyView}
use Rattle.rbac_paths.specs.Access.{AccessView, AllowsAccess}
use Rattle.rbac_paths.specs.Aims.{ToTakeOver, ToBeAllowed}
use Rattle.rbac_paths.specs.Nodes.{NodeView, Somebody}
use Rattle.rbac_paths.specs.Paths.{IsSooner, GoesTo, IsBeforeOn, IsFewest, LeadsTo}
use Rattle.rbac_paths.specs.Reasons.{IsReason, ReasonView}
use Rattle.rbac_paths.specs.Told.{IsFirstTold}
use Rattle.rbac_steps.specs.declared.steps.Step.{Step}

-- the node is one of these users and groups
abbrev pub IsPrincipal : List Who → NodeView → Type 0
IsPrincipal principals y = (who : Who) × Contains principals who × (y ≡ Somebody who)

-- y is one of the users and groups, or steps lead to y from one of them
abbrev pub IsComeTo : PolicyView → List Who → List Step → NodeView → Type 0
IsComeTo p principals steps y =
    (n : ℕ) × LeadsTo (GoesTo p principals steps) (IsPrincipal principals) n y

-- one of these steps goes from x to y, with the two nodes in turned order
abbrev pub GoesBack : PolicyView → List Who → List Step → NodeView → NodeView → Type 0
GoesBack p principals steps y x = GoesTo p principals steps x y

-- n steps lead from x to a node that allows the request
abbrev pub StepsLeadOn : PolicyView → List Who → List Step → AccessView → ℕ → NodeView → Type 0
StepsLeadOn p principals steps asked n x =
    LeadsTo (GoesBack p principals steps) (AllowsAccess p asked) n x

-- the first step of a way: the node to which it leads, and the step
pub record NextView : Type 0 where
  pub node : NodeView
  pub step : Step

-- a way, by its start: the number of steps, the node at its start, the first step, if there is one,
-- and the reason for this step; without a step, the reason why the node itself allows the request
pub record WayView : Type 0 where
  pub count : ℕ
  pub node : NodeView
  pub next : Option NextView
  pub reason : ReasonView

-- the first step of the way x, which has the fewest steps. If such a way can go to several nodes,
-- it goes to the first as printed. The step is the first one by which the start takes over this
-- node, with the first reason
pub record IsOnward (p : PolicyView) (principals : List Who) (steps : List Step) (asked : AccessView)
    (x : WayView) (next : NextView) : Type 0 where
  pub others : ℕ
  pub count : x.count ≡ others + 1
  pub to : IsBeforeOn (GoesBack p principals steps) (AllowsAccess p asked) others x.node next.node
  pub step : IsFirstTold p steps x.node next.node next.step
  pub reason : IsReason p x.node (ToTakeOver next.step next.node) x.reason

-- x is a way with the fewest steps from a user or a group, or from a node to which steps lead from
-- one of these
pub record IsWayOn (p : PolicyView) (principals : List Who) (steps : List Step) (asked : AccessView)
    (x : WayView) : Type 0 where
  pub come : IsComeTo p principals steps x.node
  pub fewest : IsFewest (GoesBack p principals steps) (AllowsAccess p asked) x.count x.node
  pub next : MatchOption x.next
      ((x.count ≡ 0) × IsReason p x.node (ToBeAllowed asked) x.reason)
      (IsOnward p principals steps asked x)

-- the way x has fewer steps than y, or as many, and its start is printed before that of y
abbrev pub IsShorter : WayView → WayView → Type 0
IsShorter x y = IsSooner x.count y.count x.node y.node

-- exactly one way from each node that is a user or a group, or to which steps lead from one of
-- these, and from which steps, or none, lead to a node that allows the request; in order of the
-- number of steps, and then of the nodes as printed (own)
pub record AreWays (p : PolicyView) (all : List Who) (steps : List Step) (asked : AccessView)
    (xs : List WayView) : Type 0 where
  pub each : All (IsWayOn p all steps asked) xs
  pub complete : (n : ℕ) (y : NodeView) → IsComeTo p all steps y
      → StepsLeadOn p all steps asked n y → Any (λ x. x.node ≡ y) xs
  pub ordered : AllPairs IsShorter xs

-- the ways to the request, if the users and groups among the nodes are these
abbrev pub AreWaysTo : PolicyView → List Who → List Step → AccessView → List WayView → Type 0
AreWaysTo p principals steps asked xs = (all : List Who)
    × ((who : Who) → Contains all who ↔ Contains principals who) × AreWays p all steps asked xs
