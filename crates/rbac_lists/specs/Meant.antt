-- The lists that a universe is made of: each given by a Universe document, or derived.
use Rattle.std.specs.Prelude.{List, Option, None, unwrap_or}
use Rattle.std.specs.List.{filter_map, last_or}
use Rattle.rbac_terms.specs.Text.{Text}
use Rattle.rbac_model.specs.Policies.{Held}
use Rattle.rbac_catalogue.specs.Catalogue.{CatalogueView}
use Rattle.rbac_universe.specs.declared.lists.UniverseLists.{UniverseLists}
use Rattle.rbac_lists.specs.declared.given_lists.Account.{Account}
use Rattle.rbac_lists.specs.declared.given_lists.GivenLists.{GivenLists}
use Rattle.rbac_lists.specs.Derived.{principals_of, namespaces_of, verbs_of, resources_of, names_of}
use Rattle.rbac_lists.specs.Derived.{urls_of}

-- the list of the last document that has one
abbrev pub last_given : {X : Type 0} → (GivenLists → Option X) → List GivenLists → Option X
last_given field documents = last_or None (filter_map field documents)

-- the last list given, even if it is empty; if no document has the list, the derived one (own)
abbrev pub given_or : {X : Type 0} → X → (GivenLists → Option X) → List GivenLists → X
given_or derived field documents = unwrap_or (last_given field documents) derived

-- the lists, each as the Universe documents give it or derived (own)
abbrev pub lists_meant : Held → CatalogueView → List Text → List Account → List GivenLists
    → UniverseLists
lists_meant h c namespaces accounts documents = record {
  principals = given_or (principals_of h accounts) (λ d. d.principals) documents;
  namespaces = given_or (namespaces_of h namespaces accounts) (λ d. d.namespaces) documents;
  verbs = given_or (verbs_of h c) (λ d. d.verbs) documents;
  resources = given_or (resources_of h c) (λ d. d.resources) documents;
  names = given_or (names_of h) (λ d. d.names) documents;
  urls = given_or (urls_of h) (λ d. d.urls) documents;
}
