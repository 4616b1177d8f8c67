-- The permissions of a rule: rules with one word of each list, which can't be cut further.
use Rattle.std.specs.Prelude.{◌≡◌, ℕ, List, [], ◌∷◌, Option, Some, None, option_and_then, option_map}
use Rattle.std.specs.Prelude.{slice_get}
use Rattle.rbac_terms.specs.Text.{Text}
use Rattle.rbac_terms.specs.declared.matching.Rule.{Rule}
use Rattle.rbac_model.specs.Lists.{IsFirstAt}
use Rattle.rbac_use.specs.declared.permission.TargetPlaces.{TargetPlaces}
use Rattle.rbac_use.specs.declared.permission.TargetPlaces.TheVariants.{Resource, Url}

-- the rule for this verb word on this URL word
abbrev pub url_permission : Text → Text → Rule
url_permission verb url = record {
  verbs = verb ∷ [];
  groups = [];
  resources = [];
  resource_names = [];
  urls = url ∷ [];
}

-- the rule for this verb word on this resource word of this API group word, for these object names;
-- without names, for any
abbrev pub resource_permission : Text → Text → Text → List Text → Rule
resource_permission verb group resource names = record {
  verbs = verb ∷ [];
  groups = group ∷ [];
  resources = resource ∷ [];
  resource_names = names;
  urls = [];
}

-- no object names, if there are none
abbrev pub no_names : List Text → Option (List Text)
no_names [] = Some []
no_names (name ∷ names) = None

-- the object name at that place, alone; without a place none, if the rule has none
abbrev pub names_at : List Text → Option ℕ → Option (List Text)
names_at names None = no_names names
names_at names (Some i) = option_map (λ name. name ∷ []) (slice_get names i)

-- the rule for the words at these places, if the lists have them: a verb on a URL; or a verb on a
-- resource of an API group, for an object name, or for any if the rule has none
abbrev pub permission_at : Rule → ℕ → TargetPlaces → Option Rule
permission_at r i (Url k) =
    option_and_then (λ verb. option_map (λ url. url_permission verb url) (slice_get r.urls k))
    (slice_get r.verbs i)
permission_at r i (Resource j k l) =
    option_and_then (λ verb. option_and_then (λ group. option_and_then (λ resource. option_map
    (λ names. resource_permission verb group resource names)
    (names_at r.resource_names l)) (slice_get r.resources k)) (slice_get r.groups j))
    (slice_get r.verbs i)

-- the list has a word at that place, and not at an earlier one
abbrev pub IsFirstPlace : List Text → ℕ → Type 0
IsFirstPlace words i = (w : Text) × IsFirstAt (λ x. x ≡ w) words i w

-- no earlier place has the same object name; any name has no place
abbrev pub IsFirstName : List Text → Option ℕ → Type 0
IsFirstName names None = Unit {0}
IsFirstName names (Some i) = IsFirstPlace names i

-- no earlier place of a list has the same word of a resource
abbrev pub AreFirstOfResource : Rule → ℕ → ℕ → Option ℕ → Type 0
AreFirstOfResource r j k l = IsFirstPlace r.groups j × IsFirstPlace r.resources k
    × IsFirstName r.resource_names l

-- no earlier place of a list has the same word
abbrev pub AreFirstPlaces : Rule → ℕ → TargetPlaces → Type 0
AreFirstPlaces r i (Url k) = IsFirstPlace r.verbs i × IsFirstPlace r.urls k
AreFirstPlaces r i (Resource j k l) = IsFirstPlace r.verbs i × AreFirstOfResource r j k l

-- p is the permission of a rule with the words at these places (own); a word that a list repeats
-- counts at its first place alone
abbrev pub IsPermissionAt : Rule → ℕ → TargetPlaces → Rule → Type 0
IsPermissionAt r i target p = AreFirstPlaces r i target × (permission_at r i target ≡ Some p)
