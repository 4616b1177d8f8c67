-- Near grants: those that would allow a request if one thing were otherwise (own).
use Rattle.std.specs.Prelude.{◌≡◌, ◌≢◌, ℕ, ◌⊎◌, ◌↔◌, Bool, true, List, [], ◌∷◌, Some}
use Rattle.std.specs.Prelude.{AllPairs, Any, Contains, slice_get}
use Rattle.std.specs.Cmp.Lexicographic.{slice_cmp}
use Rattle.std.specs.Ordering.{nat_cmp}
use Rattle.std.specs.declared.cmp.Ordering.{Ordering}
use Rattle.std.specs.declared.cmp.Ordering.TheVariants.{Less}
use Rattle.rbac_terms.specs.Text.{Text, IsCutAtFirst, slash, star}
use Rattle.rbac_terms.specs.Targets.{What, Resource, Url}
use Rattle.rbac_terms.specs.Principals.{Who}
use Rattle.rbac_terms.specs.Granting.{Names}
use Rattle.rbac_terms.specs.Matching.{NameMatches, ResourceWordMatches, RuleAllows, TargetOk}
use Rattle.rbac_terms.specs.Matching.{VerbOk, WordMatches}
use Rattle.rbac_terms.specs.declared.granting.Subject.{Subject}
use Rattle.rbac_terms.specs.declared.granting.Subject.TheVariants.{Group as ForGroup}
use Rattle.rbac_terms.specs.declared.matching.Rule.{Rule}
use Rattle.rbac_terms.specs.declared.scope.Scope.TheVariants.{Anywhere}
use Rattle.rbac_model.specs.Lists.{IsFirstAt}
use Rattle.rbac_model.specs.Policies.{BindingNames, GrantView, Live, PolicyView}
use Rattle.rbac_model.specs.Scopes.{LiveIn}
use Rattle.rbac_near.specs.declared.near.Missing.{Missing}
use Rattle.rbac_near.specs.declared.near.Missing.TheVariants.{Namespace, Verb, Group, Subresource}
use Rattle.rbac_near.specs.declared.near.Missing.TheVariants.{Name, Member}
use Rattle.rbac_near.specs.declared.near.Near.{Near}
use Rattle.rbac_near.specs.declared.near.Request.{Request}

-- a request: who asks, where, and for what; and whether another namespace can make a difference,
-- which it can't for a type that is cluster-scoped
pub record RequestView : Type 0 where
  pub who : Who
  pub namespace : Text
  pub verb : Text
  pub target : What
  pub is_namespaced : Bool

-- what contracts see of a request
abbrev pub request_of : Request → RequestView
request_of r = record {
  who = r.who.now;
  namespace = r.namespace.now;
  verb = r.verb.now;
  target = r.target.now;
  is_namespaced = r.is_namespaced;
}

-- the grant's binding counts where the request is made
abbrev pub CountsThere : RequestView → GrantView → Type 0
CountsThere q g = Live g.binding.namespace q.namespace q.target

-- the grant's binding doesn't count there, but in another namespace
abbrev pub CountsElsewhere : RequestView → GrantView → Type 0
CountsElsewhere q g = (q.is_namespaced ≡ true) × (¬ CountsThere q g)
    × LiveIn Anywhere g.binding.namespace q.target

-- the part of a resource text before its subresource: what stands before its first slash, or all of
-- it (Using RBAC Authorization, Referring to resources)
abbrev pub IsBeforeSubresource : Text → Text → Type 0
IsBeforeSubresource text part = ((rest : Text) × IsCutAtFirst text slash part rest)
    ⊎ ((¬ Contains text slash) × (part ≡ text))

-- a rule's word is for the resource of that text, or for a subresource of it; a word for all
-- resources is for none of them alone
unfoldable pub IsOfResource : Text → Text → Type 0
IsOfResource text word = (part : Text) × IsBeforeSubresource text part
    × IsBeforeSubresource word part × (part ≢ []) × (part ≢ star ∷ [])

-- the rule matches the target, but for its API group
abbrev pub LacksGroup : Rule → What → Type 0
LacksGroup r (Resource group text name) = (¬ Any (λ w. WordMatches w group) r.groups)
    × Any (λ w. ResourceWordMatches w text) r.resources × NameMatches r.resource_names name
LacksGroup r (Url path) = ⊥

-- the rule matches the target, but for its subresource: no word of the rule matches the resource
-- text, and one is for the same resource with another subresource, or with none
abbrev pub LacksSubresource : Rule → What → Type 0
LacksSubresource r (Resource group text name) = Any (λ w. WordMatches w group) r.groups
    × (¬ Any (λ w. ResourceWordMatches w text) r.resources) × Any (IsOfResource text) r.resources
    × NameMatches r.resource_names name
LacksSubresource r (Url path) = ⊥

-- the rule matches the target, but for its object name
abbrev pub LacksName : Rule → What → Type 0
LacksName r (Resource group text name) = Any (λ w. WordMatches w group) r.groups
    × Any (λ w. ResourceWordMatches w text) r.resources × (¬ NameMatches r.resource_names name)
LacksName r (Url path) = ⊥

-- the grant would allow the request to whom its binding names, if not for the one thing that is
-- missing
abbrev pub LacksPart : RequestView → Missing → GrantView → Type 0
LacksPart q Namespace g = CountsElsewhere q g × RuleAllows g.rule.rule q.verb q.target
LacksPart q Verb g = CountsThere q g × (¬ VerbOk g.rule.rule q.verb)
    × TargetOk g.rule.rule q.target
LacksPart q Group g = CountsThere q g × VerbOk g.rule.rule q.verb × LacksGroup g.rule.rule q.target
LacksPart q Subresource g = CountsThere q g × VerbOk g.rule.rule q.verb
    × LacksSubresource g.rule.rule q.target
LacksPart q Name g = CountsThere q g × VerbOk g.rule.rule q.verb × LacksName g.rule.rule q.target
LacksPart q Member g = ⊥

-- the grant would allow the request, if not for the one thing that is missing
abbrev pub Lacks : RequestView → Missing → GrantView → Type 0
Lacks q Member g = CountsThere q g × (¬ BindingNames g.binding q.who)
    × RuleAllows g.rule.rule q.verb q.target
Lacks q missing g = BindingNames g.binding q.who × LacksPart q missing g

-- the grant is for this group, and only membership in it is missing
abbrev pub LacksMember : RequestView → Text → GrantView → Type 0
LacksMember q group g = Lacks q Member g × Contains g.binding.subjects (ForGroup group)

-- the subject at that place of the grant with that number is the one that is told: the first that
-- names who asks; or for a missing member the first for its group, where this is the first grant
-- for this group
abbrev pub IsToldBy : PolicyView → RequestView → Missing → GrantView → ℕ → ℕ → Type 0
IsToldBy p q Member g number place = (group : Text)
    × IsFirstAt (LacksMember q group) p.grants number g
    × IsFirstAt (λ s. s ≡ ForGroup group) g.binding.subjects place (ForGroup group)
IsToldBy p q _ g number place = (s : Subject)
    × IsFirstAt (λ s. Names s g.binding.namespace q.who) g.binding.subjects place s

-- x is a near grant: its grant lacks one thing, and its subject is the one that is told
pub record IsNear (p : PolicyView) (q : RequestView) (x : Near) : Type 0 where
  pub grant : GrantView
  pub here : slice_get p.grants x.number ≡ Some grant
  pub lacks : Lacks q x.missing grant
  pub told : IsToldBy p q x.missing grant x.number x.subject_place

-- the place of what is missing in the order in which near grants are told
abbrev pub missing_rank : Missing → ℕ
missing_rank Namespace = 0
missing_rank Verb = 1
missing_rank Group = 2
missing_rank Subresource = 3
missing_rank Name = 4
missing_rank Member = 5

-- near grants compare by what is missing, then by their numbers, then by their subjects
abbrev pub near_cmp : Near → Near → Ordering
near_cmp x y = slice_cmp nat_cmp (missing_rank x.missing ∷ x.number ∷ x.subject_place ∷ [])
    (missing_rank y.missing ∷ y.number ∷ y.subject_place ∷ [])

-- exactly the near grants, each once, in order
pub record AreNear (p : PolicyView) (q : RequestView) (xs : List Near) : Type 0 where
  pub ordered : AllPairs (λ x y. near_cmp x y ≡ Less) xs
  pub exact : (x : Near) → Contains xs x ↔ IsNear p q x
