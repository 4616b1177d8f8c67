use Rattle.std.specs.Prelude.{◌≡◌, ◌≢◌, ℕ, ◌+◌, ◌⊎◌, List, [], ◌∷◌, ◌++◌, Contains, Any, replicate}
use Rattle.std.specs.Prelude.{codes}
use Rattle.rbac_terms.specs.declared.matching.Rule.{Rule}
use Rattle.rbac_terms.specs.Targets.{What, Resource, Url}
use Rattle.rbac_terms.specs.Text.{Text, star, slash, IsCutAtFirst, BeginsWith}

-- a rule's word matches a verb or an API group: the word is `*`, or the verb or the group itself
-- (rbac/v1 evaluation helpers)
abbrev pub WordMatches : Text → Text → Type 0
WordMatches w x = (w ≡ codes "*") ⊎ (w ≡ x)

-- s is what follows the first slash of x: the subresource of a resource text (Using RBAC
-- Authorization, Referring to resources)
abbrev pub FollowsFirstSlash : Text → Text → Type 0
FollowsFirstSlash x s = (m : Text) × IsCutAtFirst x slash m s

-- a rule's word matches a resource text: it is `*`, the text itself, or `*/` followed by the text's
-- subresource, which isn't empty (rbac/v1 evaluation helpers)
abbrev pub ResourceWordMatches : Text → Text → Type 0
ResourceWordMatches w x = WordMatches w x
    ⊎ ((s : Text) × (w ≡ codes "*/" ++ s) × (s ≢ []) × FollowsFirstSlash x s)

-- a rule's object names match an object name: the rule has no names, or has this one (rbac/v1
-- evaluation helpers)
abbrev pub NameMatches : List Text → Text → Type 0
NameMatches names x = (names ≡ []) ⊎ Contains names x

-- a text ends in a star
abbrev pub EndsInStar : Text → Type 0
EndsInStar t = (r : Text) × (t ≡ r ++ star ∷ [])

-- the word ends in stars, and p is the part before all of them
abbrev pub IsBeforeStars : Text → Text → Type 0
IsBeforeStars w p = (k : ℕ) × (w ≡ p ++ replicate (k + 1) star) × (¬ EndsInStar p)

-- a rule's word matches a URL path: the word is the path, or ends in stars and the path begins with
-- the part before all of them (rbac/v1 evaluation helpers; more than one star: own)
abbrev pub UrlWordMatches : Text → Text → Type 0
UrlWordMatches w x = (w ≡ x)
    ⊎ ((q : Text) × (k : ℕ) × (w ≡ q ++ replicate (k + 1) star) × (¬ EndsInStar q) × BeginsWith x q)

-- some verb word of the rule matches the verb (rbac/v1 evaluation helpers)
abbrev pub VerbOk : Rule → Text → Type 0
VerbOk r v = Any (λ w. WordMatches w v) r.verbs

-- the rule matches the target, whatever the verb: a resource by one of its group words, one of its
-- resource words and its names, a URL by one of its URL words (rbac/v1 evaluation helpers)
abbrev pub TargetOk : Rule → What → Type 0
TargetOk r (Resource group text name) =
    Any (λ w. WordMatches w group) r.groups × Any (λ w. ResourceWordMatches w text) r.resources
    × NameMatches r.resource_names name
TargetOk r (Url path) = Any (λ w. UrlWordMatches w path) r.urls

-- the rule allows the verb on the target: it matches both (rbac/v1 evaluation helpers)
abbrev pub RuleAllows : Rule → Text → What → Type 0
RuleAllows r v t = VerbOk r v × TargetOk r t
