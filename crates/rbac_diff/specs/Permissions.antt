-- What the rules of a policy permit, in pieces that can't be cut further.
use Rattle.std.specs.Prelude.{◌≡◌, ℕ, List, [], ◌∷◌, Option, Some, None, Any, Contains, Bool}
use Rattle.std.specs.Prelude.{◌==◌, ◌&&◌, true, if◌then◌else◌}
use Rattle.rbac_terms.specs.Text.{Text, star}
use Rattle.rbac_terms.specs.Principals.{Who}
use Rattle.rbac_terms.specs.Granting.{subject_principal}
use Rattle.rbac_terms.specs.declared.matching.Rule.{Rule}
use Rattle.rbac_model.specs.Lists.{IsFirstAt}
use Rattle.rbac_model.specs.Policies.{PolicyView, GrantView}
use Rattle.rbac_terms.specs.declared.granting.Binding.{Binding}

-- what is permitted (own): a resource word with an API group word, in one namespace, or in all and
-- none, with one object name or any; or a URL word
pub data Permitted : Type 0 where
  OnResource : (namespace : Option Text) (group resource : Text) (name : Option Text) → Permitted
  OnUrl : (url : Text) → Permitted

-- a permission (own): a user with whatever groups, or everybody in a group, may use a verb word on
-- what is permitted
pub record PermissionView : Type 0 where
  pub principal : Who
  pub verb : Text
  pub target : Permitted

-- the text is nothing but stars
abbrev pub are_stars : Text → Bool
are_stars [] = true
are_stars (c ∷ w) = (c == star) && are_stars w

-- the word with one star at its end, if it has several (own)
abbrev pub one_star : Text → Text
one_star [] = []
one_star (c ∷ w) = if are_stars (c ∷ w) then star ∷ [] else c ∷ one_star w

-- the object name of a permission by a rule's names: one of them, or any if there are none
abbrev pub IsNameOf : List Text → Option Text → Type 0
IsNameOf names None = names ≡ []
IsNameOf names (Some name) = Contains names name

-- a rule permits this through a binding in that namespace, or in none; URLs only through a
-- ClusterRoleBinding (Using RBAC Authorization)
abbrev pub Permits : Option Text → Rule → Permitted → Type 0
Permits own r (OnResource namespace group resource name) =
    (namespace ≡ own) × Contains r.groups group × Contains r.resources resource
    × IsNameOf r.resource_names name
Permits own r (OnUrl url) = (own ≡ None) × Any (λ w. one_star w ≡ url) r.urls

-- a grant has a permission: a subject of its binding stands for the principal, and its rule has the
-- verb and permits the target
pub record HasPermission (p : PermissionView) (g : GrantView) : Type 0 where
  pub principal : Any
      (λ s. subject_principal g.binding.namespace s ≡ Some p.principal) g.binding.subjects
  pub verb : Contains g.rule.rule.verbs p.verb
  pub target : Permits g.binding.namespace g.rule.rule p.target

-- a binding has a permission by one of its grants
abbrev pub HasBy : PolicyView → PermissionView → Binding → Type 0
HasBy policy p b = Any (λ g. (g.binding ≡ b) × HasPermission p g) policy.grants

-- b is the first binding that has the permission
abbrev pub IsFirstWith : PolicyView → PermissionView → Binding → Type 0
IsFirstWith policy p b = (at : ℕ) × IsFirstAt (HasBy policy p) policy.held.bindings at b
