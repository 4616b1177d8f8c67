-- Which bindings are live in a scope.
use Rattle.std.specs.Prelude.{◌≡◌, Option, None}
use Rattle.rbac_terms.specs.Text.{Text}
use Rattle.rbac_terms.specs.Targets.{What}
use Rattle.rbac_terms.specs.declared.scope.Scope.{Scope}
use Rattle.rbac_terms.specs.declared.scope.Scope.TheVariants.{Anywhere, Namespace, ClusterWide}
use Rattle.rbac_model.specs.Policies.{Live}
use Rattle.rbac_model.specs.Universes.{LiveForSome}

-- a binding is live for the target in a scope (own): anywhere, if it is live in some namespace; in
-- one namespace, if it is live there; in the whole cluster at once, if it is a ClusterRoleBinding
abbrev pub LiveIn : Scope → Option Text → What → Type 0
LiveIn Anywhere own t = (asked : Text) × Live own asked t
LiveIn (Namespace asked) own t = Live own asked t
LiveIn ClusterWide own t = own ≡ None

-- a binding may be live in a scope (own): anywhere, always; in one namespace, if it is live there
-- for some target; in the whole cluster at once, if it is a ClusterRoleBinding
abbrev pub MayBeLiveIn : Scope → Option Text → Type 0
MayBeLiveIn Anywhere own = Unit {0}
MayBeLiveIn (Namespace asked) own = LiveForSome own asked
MayBeLiveIn ClusterWide own = own ≡ None
