-- The requests that are compared, and those that a permission stands for.
use Rattle.std.specs.Prelude.{◌≡◌, ◌≢◌, [], Option, Some, None, Contains, codes}
use Rattle.rbac_terms.specs.Text.{Text}
use Rattle.rbac_terms.specs.Targets.{What, Resource, Url, IsProper}
use Rattle.rbac_terms.specs.Principals.{Who, AsUser, AsMember, IsUserNamed, IsInGroup}
use Rattle.rbac_terms.specs.Matching.{WordMatches, ResourceWordMatches, UrlWordMatches}
use Rattle.rbac_model.specs.Policies.{PolicyView, Live, Allows}
use Rattle.rbac_diff.specs.Permissions.{Permitted, OnResource, OnUrl, PermissionView}

-- a request: who asks for what, and where
pub record RequestView : Type 0 where
  pub who : Who
  pub namespace : Text
  pub verb : Text
  pub target : What

-- a user that a server can see (own): neither its name nor the name of a given group is empty; it
-- isn't given `system:unauthenticated`, which only the anonymous user is in; and the anonymous user
-- is given no group
abbrev pub IsUser : Who → Type 0
IsUser (AsUser name given) = (name ≢ []) × (¬ Contains given [])
    × (¬ Contains given (codes "system:unauthenticated"))
    × (name ≡ codes "system:anonymous" → given ≡ [])
IsUser (AsMember group) = ⊥

-- a request of a user: for any verb, in any namespace or none, on any proper target
abbrev pub IsRequest : RequestView → Type 0
IsRequest r = IsUser r.who × IsProper r.target

-- the policy allows the request
abbrev pub AllowsRequest : PolicyView → RequestView → Type 0
AllowsRequest policy r = Allows policy.held r.who r.namespace r.verb r.target

-- the principal is the user of that name, or in that group
abbrev pub IsFor : Who → Who → Type 0
IsFor (AsUser name given) who = IsUserNamed who name
IsFor (AsMember group) who = IsInGroup who group

-- an object name, or any
abbrev pub IsNameOrAny : Option Text → Text → Type 0
IsNameOrAny None name = Unit {0}
IsNameOrAny (Some own) name = own ≡ name

-- what is permitted includes this target in this namespace: the namespace fits, and each word
-- matches
abbrev pub IsPermitted : Permitted → Text → What → Type 0
IsPermitted (OnResource own group resource name) namespace (Resource g text n) =
    Live own namespace (Resource g text n) × WordMatches group g × ResourceWordMatches resource text
    × IsNameOrAny name n
IsPermitted (OnUrl url) namespace (Url path) = UrlWordMatches url path
IsPermitted _ _ _ = ⊥

-- a permission stands for a request: it is for the principal, and its words match what is asked for
pub record StandsFor (p : PermissionView) (r : RequestView) : Type 0 where
  pub principal : IsFor p.principal r.who
  pub verb : WordMatches p.verb r.verb
  pub target : IsPermitted p.target r.namespace r.target

-- a request is gained: after allows it, and before doesn't
pub record IsGainedRequest (before after : PolicyView) (r : RequestView) : Type 0 where
  pub request : IsRequest r
  pub allowed : AllowsRequest after r
  pub refused : ¬ AllowsRequest before r

-- a permission is gained: after has it, and some request that it stands for is gained
abbrev pub IsGained : PolicyView → PolicyView → PermissionView → Type 0
IsGained before after p = (r : RequestView) × StandsFor p r × IsGainedRequest before after r

-- after lets nobody do more: before allows every request that after allows
abbrev pub AllowsNoMore : PolicyView → PolicyView → Type 0
AllowsNoMore before after = (r : RequestView) → IsRequest r → AllowsRequest after r
    → AllowsRequest before r
