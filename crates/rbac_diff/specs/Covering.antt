-- When a policy allows all requests that a permission stands for. Finitely many requests decide it:
-- those made of the permission's own words, taken as texts.
use Rattle.std.specs.Prelude.{◌≡◌, ◌≢◌, ◌⊎◌, List, [], ◌∷◌, Option, Some, None, Any}
use Rattle.std.specs.Prelude.{codes}
use Rattle.std.specs.Str.{bytes_eq}
use Rattle.std.specs.Prelude.{if◌then◌else◌}
use Rattle.rbac_terms.specs.Text.{Text}
use Rattle.rbac_terms.specs.Targets.{IsResourceText}
use Rattle.rbac_terms.specs.Principals.{Who, AsUser, AsMember}
use Rattle.rbac_terms.specs.Matching.{VerbOk, WordMatches, ResourceWordMatches, NameMatches}
use Rattle.rbac_terms.specs.Matching.{UrlWordMatches}
use Rattle.rbac_terms.specs.declared.matching.Rule.{Rule}
use Rattle.rbac_model.specs.OwnWords.{IsUrlSample, GivesPath}
use Rattle.rbac_model.specs.Policies.{PolicyView, GrantView, BindingNames}
use Rattle.rbac_diff.specs.Permissions.{Permitted, OnResource, OnUrl, PermissionView}

-- the stand-ins of a principal: a binding that names a stand-in names everyone whom the principal
-- stands for. A user's is the user without given groups. A group's are a member of it and a member
-- of `system:authenticated`; but of `system:unauthenticated`, the anonymous user alone
abbrev pub stand_ins : Who → List Who
stand_ins (AsUser name given) = AsUser name [] ∷ []
stand_ins (AsMember group) =
    if bytes_eq group (codes "system:unauthenticated")
    then AsUser (codes "system:anonymous") [] ∷ []
    else AsMember group ∷ AsMember (codes "system:authenticated") ∷ []

-- a binding in that namespace, or in none, is live wherever this is permitted
abbrev pub IsAsWide : Option Text → Permitted → Type 0
IsAsWide own (OnResource namespace group resource name) = (own ≡ None) ⊎ (own ≡ namespace)
IsAsWide own (OnUrl url) = own ≡ None

-- a rule's names allow the object name of a permission
abbrev pub CoversName : List Text → Option Text → Type 0
CoversName names None = names ≡ []
CoversName names (Some name) = NameMatches names name

-- a rule allows what is permitted, its words taken as texts
abbrev pub CoversTarget : Rule → Permitted → Type 0
CoversTarget r (OnResource namespace group resource name) =
    Any (λ w. WordMatches w group) r.groups × Any (λ w. ResourceWordMatches w resource) r.resources
    × CoversName r.resource_names name
CoversTarget r (OnUrl url) = (x : Text) → IsUrlSample url x → Any (λ w. UrlWordMatches w x) r.urls

-- a rule allows a verb word on what is permitted
abbrev pub CoversWords : Text → Permitted → Rule → Type 0
CoversWords verb target r = VerbOk r verb × CoversTarget r target

-- a grant allows all requests that a permission stands for
pub record CoversPermission (p : PermissionView) (g : GrantView) : Type 0 where
  pub wide : IsAsWide g.binding.namespace p.target
  pub names : Any (BindingNames g.binding) (stand_ins p.principal)
  pub words : CoversWords p.verb p.target g.rule.rule

-- the policy covers the permission: some grant allows all requests that it stands for
abbrev pub IsCovered : PolicyView → PermissionView → Type 0
IsCovered policy p = Any (CoversPermission p) policy.grants

-- what is permitted includes a request: a RoleBinding in the empty namespace is live nowhere, and
-- words that match no proper target permit nothing
abbrev pub IsAskedFor : Permitted → Type 0
IsAskedFor (OnResource namespace group resource name) = (namespace ≢ Some [])
    × IsResourceText resource
IsAskedFor (OnUrl url) = GivesPath url
