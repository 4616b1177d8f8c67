-- When a rule covers another: it allows everything that the other rule allows. Finitely many
-- requests decide this: the other rule's samples.
use Rattle.std.specs.Prelude.{◌≡◌, ◌≢◌, ◌<◌, ◌⊎◌, List, [], All, Any, Contains, length}
use Rattle.rbac_terms.specs.declared.matching.Rule.{Rule}
use Rattle.rbac_terms.specs.Text.{Text}
use Rattle.rbac_model.specs.Universes.{Covers}
use Rattle.rbac_model.specs.OwnWords.{IsUrlSample, AllowsUrlWord, GivesPath}
use Rattle.rbac_terms.specs.Targets.{What, Resource, Url, IsPath, IsResourceText}
use Rattle.rbac_terms.specs.Matching.{WordMatches, ResourceWordMatches, NameMatches}
use Rattle.rbac_terms.specs.Matching.{VerbOk, RuleAllows}

-- a allows whatever b allows
unfoldable pub CoversAll : Rule → Rule → Type 0
CoversAll a b = Covers a b

-- longer than each of the names
abbrev pub IsLongerThanAll : Text → List Text → Type 0
IsLongerThanAll n names = All (λ m. length m < length n) names

-- a name of b or, if b has none, a name longer than all of a's
abbrev pub IsNameSample : List Text → List Text → Text → Type 0
IsNameSample mine theirs n = Contains theirs n ⊎ ((theirs ≡ []) × IsLongerThanAll n mine)

-- a sample of two rules: a verb word of b, and a proper target made of b's own words taken as texts
-- (own)
abbrev pub IsSample : Rule → Rule → Text → What → Type 0
IsSample a b v (Resource group text name) =
    Contains b.verbs v × Contains b.groups group × Contains b.resources text
    × IsNameSample a.resource_names b.resource_names name × IsResourceText text
IsSample a b v (Url path) = Contains b.verbs v × Any (λ w. IsUrlSample w path) b.urls × IsPath path

-- a allows each sample
abbrev pub AllowsSamples : Rule → Rule → Type 0
AllowsSamples a b = (v : Text) (t : What) → IsSample a b v t → RuleAllows a v t

-- ---- covering, list by list

-- a allows this verb word of b, taken as a text
unfoldable pub AllowsVerb : Rule → Text → Type 0
AllowsVerb a v = VerbOk a v

-- a allows this API group word of b, taken as a text
unfoldable pub AllowsGroup : Rule → Text → Type 0
AllowsGroup a g = Any (λ w. WordMatches w g) a.groups

-- a allows this resource word of b, taken as a text, if it is a resource text
unfoldable pub AllowsResource : Rule → Text → Type 0
AllowsResource a s = IsResourceText s → Any (λ w. ResourceWordMatches w s) a.resources

-- a allows this object name of b
unfoldable pub AllowsName : Rule → Text → Type 0
AllowsName a n = NameMatches a.resource_names n

-- a allows this URL word of b, taken as a text, if its sample is a path
unfoldable pub AllowsUrl : Rule → Text → Type 0
AllowsUrl a w = GivesPath w → AllowsUrlWord a w

-- a allows each verb word of b
unfoldable pub AllowsVerbs : Rule → Rule → Type 0
AllowsVerbs a b = All (AllowsVerb a) b.verbs

-- a allows each API group word of b
unfoldable pub AllowsGroups : Rule → Rule → Type 0
AllowsGroups a b = All (AllowsGroup a) b.groups

-- a allows each resource word of b
unfoldable pub AllowsResources : Rule → Rule → Type 0
AllowsResources a b = All (AllowsResource a) b.resources

-- a allows each object name of b; if b has no names, a has none
unfoldable pub AllowsNames : Rule → Rule → Type 0
AllowsNames a b = (b.resource_names ≡ [] → a.resource_names ≡ [])
    × All (AllowsName a) b.resource_names

-- a allows each URL word of b
unfoldable pub AllowsUrls : Rule → Rule → Type 0
AllowsUrls a b = All (AllowsUrl a) b.urls

-- b has samples that are resources
unfoldable pub HasResource : Rule → Type 0
HasResource b = (b.verbs ≢ []) × (b.groups ≢ []) × Any IsResourceText b.resources

-- b has samples that are URLs
unfoldable pub HasUrl : Rule → Type 0
HasUrl b = (b.verbs ≢ []) × Any GivesPath b.urls

-- a allows the samples of b that are resources, list by list, if there are any
abbrev pub CoversResources : Rule → Rule → Type 0
CoversResources a b = HasResource b
    → AllowsResources a b × AllowsVerbs a b × AllowsGroups a b × AllowsNames a b

-- a allows the samples of b that are URLs, list by list, if there are any
abbrev pub CoversUrls : Rule → Rule → Type 0
CoversUrls a b = HasUrl b → AllowsVerbs a b × AllowsUrls a b
