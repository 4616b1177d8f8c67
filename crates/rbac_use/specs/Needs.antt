-- What a user needs.
use Rattle.std.specs.Prelude.{◌≢◌, ◌↔◌, List, Contains, codes}
use Rattle.std.specs.Str.{IsUtf8}
use Rattle.rbac_terms.specs.Text.{Text, BeginsWith}
use Rattle.rbac_terms.specs.Targets.{What, Resource, Url}
use Rattle.rbac_terms.specs.Principals.{IsUserNamed}
use Rattle.rbac_terms.specs.Matching.{EndsInStar}
use Rattle.rbac_model.specs.Policies.{PolicyView}
use Rattle.rbac_diff.specs.Requests.{AllowsRequest, RequestView}
use Rattle.rbac_use.specs.Requests.{request_of}
use Rattle.rbac_use.specs.declared.request.Request.{Request}

-- no word of the target is a wildcard in a rule, and JSON can carry its path (RFC 8259, 8.1): the
-- other words of a log come from JSON
abbrev pub IsPlainTarget : What → Type 0
IsPlainTarget (Resource group text name) = (group ≢ codes "*") × (text ≢ codes "*")
    × (¬ BeginsWith text (codes "*/"))
IsPlainTarget (Url path) = (¬ EndsInStar path) × IsUtf8 path

-- a rule can allow this verb on this target alone: as a word of a rule, none of their words is a
-- wildcard, and a document can have the rule (own)
abbrev pub CanBeWritten : Text → What → Type 0
CanBeWritten verb t = (verb ≢ codes "*") × IsPlainTarget t

-- the user needs the request, if it is logged: this user makes it, the policy allows it, and a rule
-- can be written for it (own)
pub record MayNeed (p : PolicyView) (user : Text) (r : RequestView) : Type 0 where
  pub of_user : IsUserNamed r.who user
  pub allowed : AllowsRequest p r
  pub written : CanBeWritten r.verb r.target

-- the user needs the request (own)
abbrev pub IsNeeded : PolicyView → List RequestView → Text → RequestView → Type 0
IsNeeded p log user r = Contains log r × MayNeed p user r

-- exactly those of the requests that the user needs
abbrev pub AreNeeded : PolicyView → Text → List Request → List Request → Type 0
AreNeeded p user requests needed = (q : Request) → Contains needed q
    ↔ (Contains requests q × MayNeed p user (request_of q))
