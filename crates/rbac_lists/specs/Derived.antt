-- The lists that are derived from what is kept, one comprehension each (own).
use Rattle.std.specs.Prelude.{nat_eq, Bool, true, not, ◌&&◌, ◌==◌, List, [], ◌∷◌, ◌++◌, map, filter}
use Rattle.std.specs.Prelude.{length, codes, is_none, if◌then◌else◌}
use Rattle.std.specs.List.{flat_map, filter_map, list_any, ends_with}
use Rattle.std.specs.Str.{bytes_eq}
use Rattle.rbac_terms.specs.Text.{Text, star}
use Rattle.rbac_terms.specs.Principals.{Who, account_principal}
use Rattle.rbac_terms.specs.Targets.{is_path}
use Rattle.rbac_terms.specs.Granting.{subject_principal}
use Rattle.rbac_terms.specs.declared.matching.Rule.{Rule}
use Rattle.rbac_model.specs.Policies.{Held}
use Rattle.rbac_catalogue.specs.Catalogue.{CatalogueView}
use Rattle.rbac_universe.specs.declared.lists.ListedResource.{ListedResource}
use Rattle.rbac_lists.specs.declared.given_lists.Account.{Account}

-- ---- principals

-- the principals that the subjects of bindings stand for, binding by binding
abbrev pub subject_principals : Held → List Who
subject_principals h =
    flat_map (λ b. filter_map (subject_principal b.namespace) b.subjects) h.bindings

-- the principals of all subjects, and the users of all service accounts
abbrev pub principals_of : Held → List Account → List Who
principals_of h accounts =
    subject_principals h ++ map (λ a. account_principal a.namespace a.name) accounts

-- ---- namespaces

-- the empty namespace, those of Role, RoleBinding and ServiceAccount objects, and the names of
-- Namespace objects
abbrev pub namespaces_of : Held → List Text → List Account → List Text
namespaces_of h names accounts =
    [] ∷ map (λ r. r.namespace) h.roles ++ filter_map (λ b. b.namespace) h.bindings
    ++ map (λ a. a.namespace) accounts ++ names

-- ---- rules, and their verbs

-- the rules that are written in roles and in plain cluster roles; those written in an aggregated
-- role are ignored
abbrev pub source_rules : Held → List Rule
source_rules h =
    flat_map (λ r. r.rules) h.roles
    ++ flat_map (λ r. r.rules) (filter (λ r. is_none r.aggregation) h.cluster_roles)

-- every verb but `*`
abbrev pub is_verb : Text → Bool
is_verb verb = not (bytes_eq verb (codes "*"))

-- the verbs of catalogue entries and of rules, other than `*`
abbrev pub verbs_of : Held → CatalogueView → List Text
verbs_of h c =
    filter is_verb (flat_map (λ e. e.verbs) c.entries ++ flat_map (λ r. r.verbs) (source_rules h))

-- ---- resources

-- a text with a `*` in it
abbrev pub has_star : Text → Bool
has_star t = list_any (λ b. b == star) t

-- a word that names one resource: it isn't empty, isn't a path, and has no `*` in it
abbrev pub is_plain_resource : Text → Bool
is_plain_resource text = not (length text == 0) && not (is_path text) && not (has_star text)

-- a resource as it is listed
abbrev pub as_listed : Text → Text → Bool → ListedResource
as_listed group text namespaced = record { group = group; text = text; namespaced = namespaced }

-- a group with each of these words that names one resource; all of them namespaced
abbrev pub group_resources : List Text → Text → List ListedResource
group_resources words group =
    map (λ text. as_listed group text true) (filter is_plain_resource words)

-- each group of a rule, unless it contains a `*`, with those of the rule's resource words that name
-- one resource
abbrev pub rule_resources : Rule → List ListedResource
rule_resources r =
    flat_map (group_resources r.resources) (filter (λ group. not (has_star group)) r.groups)

-- the catalogue's resources, each namespaced or not as listed; without an API resource list, the
-- resources of rules
abbrev pub resources_of : Held → CatalogueView → List ListedResource
resources_of h c =
    if c.is_given then map (λ e. as_listed e.group e.name e.namespaced) c.entries
    else flat_map rule_resources (source_rules h)

-- ---- names and URLs

-- the empty name, and the object names of rules
abbrev pub names_of : Held → List Text
names_of h = [] ∷ flat_map (λ r. r.resource_names) (source_rules h)

-- a text whose last byte is a `*`
abbrev pub ends_in_star : Text → Bool
ends_in_star t = ends_with nat_eq t (codes "*")

-- a URL word that names one URL: it is a path and doesn't end in `*`
abbrev pub is_path_word : Text → Bool
is_path_word word = is_path word && not (ends_in_star word)

-- the URL words of rules that name one URL
abbrev pub urls_of : Held → List Text
urls_of h = filter is_path_word (flat_map (λ r. r.urls) (source_rules h))
