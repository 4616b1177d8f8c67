-- what the JSON value of a document is once members are in order, and what its fields give
use Rattle.std.proofs.Common.{◌≡◌, ◌≢◌, ℕ, true, false, List, [], ◌∷◌, map, All, Option, Some, option_map, option_and_then, length, ◌==◌, arith, refl, ap, ◌∙◌, codes}
use Rattle.std.proofs.lemmas.Bool.{ne_eqb}
use Rattle.std.proofs.lemmas.List.Elements.{All-head, All-tail}
use Rattle.std.specs.List.{list_all}
use Rattle.json.specs.Json.{Json}
use Rattle.json.specs.Json as json
use Rattle.serde_json.specs.Data.{Data, string, array, object, boolean, no_members, member}
use Rattle.serde_json.specs.Read.{of_json, of_items}
use Rattle.serde_json.specs.View.{items_of}
use Rattle.rbac_terms.specs.Text.{Text}
use Rattle.rbac_terms.specs.Principals.{Who, AsUser, AsMember, who_name}
use Rattle.rbac_universe.specs.declared.lists.ListedResource.{ListedResource}
use Rattle.rbac_universe.specs.declared.lists.UniverseLists.{UniverseLists}
use Rattle.rbac_lists.specs.declared.given_lists.GivenLists.{GivenLists}
use Rattle.json_fields.specs.Fields.{elements, all_texts, is_text, text_in, field, as_list, list_field, texts_field, text_at, flag_at}
use Rattle.json_fields.specs.Lists.{all_at}
use Rattle.rbac_manifest.specs.UniverseDocument.{user_at, member_at, principal_at, resource_at, given_lists_at}
use Rattle.rbac_document.proofs.Spelled.{json_items}
use Rattle.rbac_document.proofs.Shapes.{list_json, principal_json, resource_json, document_json}

-- ---- values

abbrev list_data : {X : Type 0} → (X → Data) → List X → Data
list_data value xs = array (items_of (map value xs))

items_read : {X : Type 0} (value : X → Json) (shown : X → Data) → ((x : X) → of_json (value x) ≡ Some (shown x)) → (xs : List X) → of_items (json_items (map value xs)) ≡ Some (items_of (map shown xs))
items_read value shown each [] = refl
items_read value shown each (x ∷ xs) = rw (each x, items_read value shown each xs) refl

list_read : {X : Type 0} (value : X → Json) (shown : X → Data) → ((x : X) → of_json (value x) ≡ Some (shown x)) → (xs : List X) → of_json (list_json value xs) ≡ Some (list_data shown xs)
list_read value shown each xs = ap (option_map array) (items_read value shown each xs)

words_read : (words : List Text) → of_json (list_json json.string words) ≡ Some (list_data string words)
words_read words = list_read json.string string (λ word. refl) words

abbrev principal_data : Who → Data
principal_data (AsUser name []) = object (member (codes "user") (string name) no_members)
principal_data (AsUser name (g ∷ gs)) = object (member (codes "groups") (list_data string (g ∷ gs)) (member (codes "user") (string name) no_members))
principal_data (AsMember group) = object (member (codes "group") (string group) no_members)

principal_read : (who : Who) → of_json (principal_json who) ≡ Some (principal_data who)
principal_read (AsUser name []) = refl
principal_read (AsUser name (g ∷ gs)) = rw (items_read json.string string (λ word. refl) gs) refl
principal_read (AsMember group) = refl

abbrev resource_data : ListedResource → Data
resource_data r =
    object (member (codes "group") (string r.group) (member (codes "namespaced") (boolean r.namespaced) (member (codes "resource") (string r.text) no_members)))

resource_read : (r : ListedResource) → of_json (resource_json r) ≡ Some (resource_data r)
resource_read r = refl

abbrev pub document_data : UniverseLists → Data
document_data lists =
    object (member (codes "apiVersion") (string (codes "rbacaudit/v1"))
    (member (codes "kind") (string (codes "Universe"))
    (member (codes "names") (list_data string lists.names)
    (member (codes "namespaces") (list_data string lists.namespaces)
    (member (codes "principals") (list_data principal_data lists.principals)
    (member (codes "resources") (list_data resource_data lists.resources)
    (member (codes "urls") (list_data string lists.urls)
    (member (codes "verbs") (list_data string lists.verbs) no_members))))))))

pub document_value : (lists : UniverseLists) → of_json (document_json lists) ≡ Some (document_data lists)
document_value lists = rw (
  items_read principal_json principal_data principal_read lists.principals,
  items_read json.string string (λ word. refl) lists.namespaces,
  items_read json.string string (λ word. refl) lists.verbs,
  items_read resource_json resource_data resource_read lists.resources,
  items_read json.string string (λ word. refl) lists.names,
  items_read json.string string (λ word. refl) lists.urls,
) refl

-- ---- fields

elements_of : (ds : List Data) → elements (items_of ds) ≡ ds
elements_of [] = refl
elements_of (d ∷ ds) = ap (λ l. d ∷ l) (elements_of ds)

are_texts : (words : List Text) → list_all is_text (map string words) ≡ true
are_texts [] = refl
are_texts (word ∷ words) = are_texts words

texts_of : (words : List Text) → map text_in (map string words) ≡ words
texts_of [] = refl
texts_of (word ∷ words) = ap (λ l. word ∷ l) (texts_of words)

words_given : (words : List Text) → option_and_then all_texts (as_list (list_data string words)) ≡ Some words
unfolding as_list all_texts
words_given words = rw (elements_of (map string words), are_texts words, texts_of words) refl

-- who has a name
abbrev pub IsNamed : Who → Type 0
IsNamed who = who_name who ≢ []

not_empty : (b : ℕ) (bs : Text) → (length (b ∷ bs) == 0) ≡ false
not_empty b bs = ne_eqb _ _ (λ e. omega (arith, e))

principal_given : (who : Who) → IsNamed who → principal_at (principal_data who) ≡ Some who
unfolding principal_at user_at member_at field texts_field list_field as_list all_texts
principal_given (AsUser [] given) named = absurd (named refl)
principal_given (AsUser (b ∷ bs) []) named = rw (not_empty b bs) refl
principal_given (AsUser (b ∷ bs) (g ∷ gs)) named = rw (not_empty b bs, elements_of (map string gs), are_texts gs, texts_of gs) refl
principal_given (AsMember []) named = absurd (named refl)
principal_given (AsMember (b ∷ bs)) named = rw (not_empty b bs) refl

resource_given : (r : ListedResource) → resource_at (resource_data r) ≡ Some r
unfolding resource_at field text_at flag_at
resource_given r = refl

module _ {X : Type 0} (shown : X → Data) (reader : Data → Option X) where
  all_given : (xs : List X) → All (λ x. reader (shown x) ≡ Some x) xs → all_at reader (map shown xs) ≡ Some xs
  all_given [] each = refl
  all_given (x ∷ xs) each = rw (All-head (λ y. reader (shown y) ≡ Some y) x xs each, all_given xs (All-tail (λ y. reader (shown y) ≡ Some y) x xs each)) refl

all_of : {X : Type 0} {P Q : X → Type 0} → ((x : X) → P x → Q x) → (xs : List X) → All P xs → All Q xs
all_of f xs each k d l = f _ (each k d l)

-- the lists, each as given
abbrev pub given : UniverseLists → GivenLists
given lists = record {
  principals = Some lists.principals;
  namespaces = Some lists.namespaces;
  verbs = Some lists.verbs;
  resources = Some lists.resources;
  names = Some lists.names;
  urls = Some lists.urls;
}

words_field : (words : List Text) → option_and_then all_texts (Some (elements (items_of (map string words)))) ≡ Some words
unfolding all_texts
words_field words = rw (elements_of (map string words), are_texts words, texts_of words) refl

entries_field : {X : Type 0} (shown : X → Data) (reader : Data → Option X) (xs : List X) → All (λ x. reader (shown x) ≡ Some x) xs → all_at reader (elements (items_of (map shown xs))) ≡ Some xs
entries_field shown reader xs each = ap (all_at reader) (elements_of (map shown xs)) ∙ all_given shown reader xs each

pub document_given : (lists : UniverseLists) → All IsNamed lists.principals → given_lists_at (document_data lists) ≡ Some (given lists)
unfolding given_lists_at field list_field as_list texts_field
document_given lists named = rw (
  entries_field principal_data principal_at lists.principals (all_of principal_given lists.principals named),
  words_field lists.namespaces,
  words_field lists.verbs,
  entries_field resource_data resource_at lists.resources (λ k d l. resource_given _),
  words_field lists.names,
  words_field lists.urls,
) refl
