-- What a node may be able to do by its rules: take over another node, or allow a request.
use Rattle.std.specs.Prelude.{Option}
use Rattle.rbac_terms.specs.Text.{Text}
use Rattle.rbac_terms.specs.Matching.{RuleAllows}
use Rattle.rbac_terms.specs.Principals.{Who}
use Rattle.rbac_terms.specs.declared.matching.Rule.{Rule}
use Rattle.rbac_model.specs.Policies.{BindingNames, GrantView, Live, PolicyView}
use Rattle.rbac_paths.specs.Access.{AccessView, AllowsAccess, access_of}
use Rattle.rbac_paths.specs.Nodes.{NodeView, node_of}
use Rattle.rbac_paths.specs.Taking.{CanTakeOver, RuleTakes}
use Rattle.rbac_paths.specs.declared.aim.Aim.{Aim}
use Rattle.rbac_paths.specs.declared.aim.Aim.TheVariants as of
use Rattle.rbac_steps.specs.declared.steps.Step.{Step}

-- an aim: to take over a node by a step, or to allow a request (own)
pub data AimView : Type 0 where
  ToTakeOver : Step → NodeView → AimView
  ToBeAllowed : AccessView → AimView

-- the aim whose parts these references point to
abbrev pub aim_of : Aim → AimView
aim_of (of.TakeOver rows node) = ToTakeOver rows.now (node_of node)
aim_of (of.Access asked) = ToBeAllowed (access_of asked)

-- a rule that counts in `home`, which is a namespace or the whole cluster, serves the aim: it
-- allows a request of the step that takes over the node, or the request itself
unfoldable pub Serves : AimView → Option Text → Rule → Type 0
Serves (ToTakeOver step y) home rule = RuleTakes step home rule y
Serves (ToBeAllowed asked) home rule = Live home asked.namespace asked.target
    × RuleAllows rule asked.verb asked.target

-- the grant serves the aim for a principal: its binding names the principal, and its rule serves
-- the aim where the binding is
abbrev pub GrantServes : AimView → Who → GrantView → Type 0
GrantServes aim who g = BindingNames g.binding who × Serves aim g.binding.namespace g.rule.rule

-- the node attains the aim: it can take over the other node by the step, or allows the request
abbrev pub Attains : PolicyView → NodeView → AimView → Type 0
Attains p x (ToTakeOver step y) = CanTakeOver p x step y
Attains p x (ToBeAllowed asked) = AllowsAccess p asked x
