-- Which nodes take over which by some steps, and which nodes `bind` and `escalate` leave out.
use Rattle.std.specs.Prelude.{◌≡◌, ◌⊎◌, List, Option, Some, None, Contains}
use Rattle.rbac_terms.specs.Text.{Text}
use Rattle.rbac_model.specs.Policies.{PolicyView}
use Rattle.rbac_paths.specs.Nodes.{NodeView, Somebody, ClusterRoleIn, OwnRole, EverythingIn}
use Rattle.rbac_paths.specs.Taking.{CanTakeOver}
use Rattle.rbac_steps.specs.declared.steps.Step.{Step}
use Rattle.rbac_steps.specs.declared.steps.Step.TheVariants.{Bind, Escalate}

-- the step writes bindings, or rules of roles
abbrev pub WritesRoles : Step → Type 0
WritesRoles step = (step ≡ Bind) ⊎ (step ≡ Escalate)

-- x can take over everything in the scope by `bind` or `escalate`, if these are among the steps
abbrev pub HasAll : PolicyView → List Step → NodeView → Option Text → Type 0
HasAll p steps x scope = (step : Step) × WritesRoles step × Contains steps step
    × CanTakeOver p x step (EverythingIn scope)

-- x can take over y by `bind`, if that is among the steps
abbrev pub BindsNode : PolicyView → List Step → NodeView → NodeView → Type 0
BindsNode p steps x y = Contains steps Bind × CanTakeOver p x Bind y

-- `bind` and `escalate` leave out a node, because they take over a node that includes it (own):
-- given are the scopes where these steps take over everything, and the nodes that `bind` takes over
abbrev pub IsUntoldBy : (Option Text → Type 0) → (NodeView → Type 0) → NodeView → Type 0
IsUntoldBy HasAllIn Binds (Somebody who) = ⊥
IsUntoldBy HasAllIn Binds (EverythingIn None) = ⊥
IsUntoldBy HasAllIn Binds (EverythingIn (Some namespace)) = HasAllIn None
IsUntoldBy HasAllIn Binds (ClusterRoleIn role None) = HasAllIn None
IsUntoldBy HasAllIn Binds (ClusterRoleIn role (Some namespace)) = HasAllIn None
    ⊎ (HasAllIn (Some namespace) ⊎ Binds (ClusterRoleIn role None))
IsUntoldBy HasAllIn Binds (OwnRole role) = HasAllIn None ⊎ HasAllIn (Some role.namespace)

-- for x, `bind` and `escalate` leave out y
abbrev pub IsUntold : PolicyView → List Step → NodeView → NodeView → Type 0
IsUntold p steps x y = IsUntoldBy (HasAll p steps x) (BindsNode p steps x) y

-- x may lead to y (own): everything in the whole cluster leads no further, and everything in a
-- namespace leads only to users and groups
abbrev pub MayGoOn : NodeView → NodeView → Type 0
MayGoOn (EverythingIn None) y = ⊥
MayGoOn (EverythingIn (Some namespace)) (Somebody who) = Unit {0}
MayGoOn (EverythingIn (Some namespace)) (ClusterRoleIn role scope) = ⊥
MayGoOn (EverythingIn (Some namespace)) (OwnRole role) = ⊥
MayGoOn (EverythingIn (Some namespace)) (EverythingIn scope) = ⊥
MayGoOn (Somebody who) y = Unit {0}
MayGoOn (ClusterRoleIn role scope) y = Unit {0}
MayGoOn (OwnRole role) y = Unit {0}

-- x takes over y by this one of the steps: x may lead to y, x can take over y by the step, and the
-- step doesn't leave out y
pub record TakesByStep (p : PolicyView) (steps : List Step) (x : NodeView) (step : Step)
    (y : NodeView) : Type 0 where
  pub goes_on : MayGoOn x y
  pub among : Contains steps step
  pub can : CanTakeOver p x step y
  pub told : WritesRoles step → ¬ IsUntold p steps x y

-- x takes over y by one of these steps
abbrev pub TakesOver : PolicyView → List Step → NodeView → NodeView → Type 0
TakesOver p steps x y = (step : Step) × TakesByStep p steps x step y
