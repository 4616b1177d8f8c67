-- Stems, from which targets are made: a resource, which is combined with each name, or a URL.
use Rattle.std.specs.Prelude.{◌≡◌, ◌≢◌, List, [], IsTrue, ◌∷◌, ◌++◌, Bool, false, cond, map}
use Rattle.rbac_terms.specs.Text.{Text}
use Rattle.rbac_terms.specs.Targets.{What, Resource, Url, is_path}
use Rattle.rbac_model.specs.Universes.{Listed}
use Rattle.rbac_universe.specs.declared.lists.UniverseLists.{UniverseLists}
use Rattle.rbac_universe.specs.declared.lists.ListedResource.{ListedResource}

-- the name of a stem: its group and its text
abbrev pub stem_name : ListedResource → List Text
stem_name s = s.group ∷ s.text ∷ []

-- a URL as a stem: no group, and not namespaced
abbrev pub url_stem : Text → ListedResource
url_stem path = record { group = []; text = path; namespaced = false }

-- the stems of lists: the resources, and then the URLs, in the order listed
abbrev pub stems_of : UniverseLists → List ListedResource
stems_of lists = lists.resources ++ map url_stem lists.urls

-- a stem's targets: a URL is one, and a resource has one for each name
abbrev pub targets_of : List Text → ListedResource → List What
targets_of names s =
    cond (is_path s.text) (Url s.text ∷ []) (map (λ n. Resource s.group s.text n) names)

-- a stem's targets, each with whether it is namespaced
abbrev pub listed_of : List Text → ListedResource → List Listed
listed_of names s = map (λ t. (t, s.namespaced)) (targets_of names s)

-- for each target of a stem, whether it is namespaced
abbrev pub flags_of : List Text → ListedResource → List Bool
flags_of names s = map (λ t. s.namespaced) (targets_of names s)

-- a URL without a group, or a resource with a text
abbrev pub IsStem : ListedResource → Type 0
IsStem s = (s.text ≢ []) × (IsTrue (is_path s.text) → s.group ≡ [])
