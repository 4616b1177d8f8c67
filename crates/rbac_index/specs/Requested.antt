-- What holders are asked for: a target as it is, or whatever its object name.
use Rattle.std.specs.Prelude.{Any}
use Rattle.rbac_terms.specs.Text.{Text}
use Rattle.rbac_terms.specs.Targets.{What, Resource, Url, group_of, text_of}
use Rattle.rbac_terms.specs.Matching.{RuleAllows, WordMatches, ResourceWordMatches}
use Rattle.rbac_terms.specs.declared.matching.Rule.{Rule}

-- what is requested: a target as it is, or whatever its object name
pub data RequestedView : Type 0 where
  ThisTarget : (t : What) → RequestedView
  AnyName : (t : What) → RequestedView

-- the given target
abbrev pub target_given : RequestedView → What
target_given (ThisTarget t) = t
target_given (AnyName t) = t

-- the target with this object name in place of its own; a URL has none
abbrev pub with_name : Text → What → What
with_name name (Resource group text other) = Resource group text name
with_name name (Url path) = Url path

-- words of the rule match the target's API group and resource text
abbrev pub StemOk : Rule → What → Type 0
StemOk r t = Any (λ w. WordMatches w (group_of t)) r.groups
    × Any (λ w. ResourceWordMatches w (text_of t)) r.resources

-- the rule allows the verb on what is requested: on the target, or on the target with some object
-- name, so that a rule counts whatever its names are (own)
abbrev pub AllowsRequested : Rule → Text → RequestedView → Type 0
AllowsRequested r verb (ThisTarget t) = RuleAllows r verb t
AllowsRequested r verb (AnyName t) = (name : Text) × RuleAllows r verb (with_name name t)
