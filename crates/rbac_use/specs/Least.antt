-- The least policy of one user: what the user needs, and what rules let it do.
use Rattle.std.specs.Prelude.{◌≡◌, ◌≢◌, ◌↔◌, Bool, IsTrue, List, [], ◌∷◌, Option, Some, None}
use Rattle.std.specs.Prelude.{Any, Contains}
use Rattle.rbac_terms.specs.Text.{Text}
use Rattle.rbac_terms.specs.Targets.{What, Resource, Url}
use Rattle.rbac_terms.specs.Matching.{RuleAllows}
use Rattle.rbac_terms.specs.declared.matching.Rule.{Rule}
use Rattle.rbac_model.specs.Policies.{Live, PolicyView}
use Rattle.rbac_diff.specs.Requests.{RequestView}
use Rattle.rbac_use.specs.Needs.{IsNeeded}
use Rattle.rbac_use.specs.declared.least.Least.{Least}

-- where a rule for a resource in that namespace is bound: there, or in the whole cluster if there is
-- none
abbrev pub home_at : Text → Option Text
home_at [] = None
home_at (c ∷ cs) = Some (c ∷ cs)

-- where the rule for a target is bound; for a URL in the whole cluster
abbrev pub home_of : Text → What → Option Text
home_of namespace (Url path) = None
home_of namespace (Resource group text name) = home_at namespace

-- a rule for the first target is for the second, too: this has the same API group and resource, and
-- the same object name, if names are kept and the first one has a name; or it is the same URL
abbrev pub IsAlike : Bool → What → What → Type 0
IsAlike names (Resource group text name) (Resource g t n) = (g ≡ group) × (t ≡ text)
    × (IsTrue names → name ≢ [] → n ≡ name)
IsAlike names (Url path) (Url p) = p ≡ path
IsAlike names _ _ = ⊥

-- the rule for a request lets its user do this in that namespace (own): the verb is the same, the
-- target is alike, and the namespace is the same; or the request is for the whole cluster
abbrev pub Lets : Bool → RequestView → Text → Text → What → Type 0
Lets names r namespace verb t = (verb ≡ r.verb) × IsAlike names r.target t
    × Live (home_of r.namespace r.target) namespace t

-- the least policy has the rule in that namespace, or in the whole cluster
abbrev pub HasRuleIn : Least → Option Text → Rule → Type 0
HasRuleIn l None rule = Contains l.everywhere rule
HasRuleIn l (Some namespace) rule =
    Any (λ part. (part.namespace ≡ namespace) × Contains part.rules rule) l.namespaces.items

-- the least policy, bound to its user, allows this in that namespace: one of its rules counts there
-- and allows it (Using RBAC Authorization)
abbrev pub LeastAllows : Least → Text → Text → What → Type 0
LeastAllows l namespace verb t = (home : Option Text) × (rule : Rule) × HasRuleIn l home rule
    × Live home namespace t × RuleAllows rule verb t

-- the least policy allows exactly what the user needs (own)
abbrev pub AllowsNeeded : PolicyView → List RequestView → Text → Bool → Least → Type 0
AllowsNeeded p log user names l = (namespace verb : Text) (t : What)
    → LeastAllows l namespace verb t
    ↔ ((r : RequestView) × IsNeeded p log user r × Lets names r namespace verb t)
