-- The Universe document that is printed (own).
use Rattle.std.specs.Prelude.{◌≡◌, ◌≢◌, All, Bool, true, false, List, [], ◌∷◌, ◌++◌, codes}
use Rattle.std.specs.List.{join_by}
use Rattle.std.specs.Str.{IsUtf8}
use Rattle.json.specs.Print.{quoted}
use Rattle.rbac_terms.specs.Text.{Text}
use Rattle.rbac_terms.specs.Principals.{Who, AsUser, AsMember, who_name, given_of}
use Rattle.rbac_model.specs.Lists.{by_name, IsOnceEach}
use Rattle.rbac_universe.specs.declared.lists.ListedResource.{ListedResource}
use Rattle.rbac_universe.specs.declared.lists.UniverseLists.{UniverseLists}
use Rattle.rbac_document.specs.Names.{word_name, principal_name, resource_name}

-- the entries of each list, each once, in order of their names (own)
pub record AreOnceEach (lists each : UniverseLists) : Type 0 where
  pub principals : IsOnceEach (by_name principal_name) lists.principals each.principals
  pub namespaces : IsOnceEach (by_name word_name) lists.namespaces each.namespaces
  pub verbs : IsOnceEach (by_name word_name) lists.verbs each.verbs
  pub resources : IsOnceEach (by_name resource_name) lists.resources each.resources
  pub names : IsOnceEach (by_name word_name) lists.names each.names
  pub urls : IsOnceEach (by_name word_name) lists.urls each.urls

-- a list as JSON, each entry on a line of its own
abbrev pub list_text : {X : Type 0} → (X → Text) → List X → Text
list_text text [] = codes "[]"
list_text text (x ∷ xs) =
    codes "[\n    " ++ join_by text (codes ",\n    ") (x ∷ xs) ++ codes "\n  ]"

-- the groups that a user is given, after its name, if there are any
abbrev pub groups_text : List Text → Text
groups_text [] = []
groups_text (group ∷ groups) =
    codes ", \"groups\": [" ++ join_by quoted (codes ", ") (group ∷ groups) ++ codes "]"

-- the principal is a user, and not a member of a group
abbrev pub is_user : Who → Bool
is_user (AsUser name given) = true
is_user (AsMember group) = false

-- the text before the name of a user, or of a group
abbrev pub before_name : Bool → Text
before_name true = codes "{\"user\": "
before_name false = codes "{\"group\": "

-- a principal as JSON
abbrev pub principal_text : Who → Text
principal_text who =
    before_name (is_user who) ++ quoted (who_name who) ++ groups_text (given_of who) ++ codes "}"

-- the text after the text of a resource
abbrev pub rest_of_resource : Bool → Text
rest_of_resource true = codes ", \"namespaced\": true}"
rest_of_resource false = codes ", \"namespaced\": false}"

-- a resource as JSON
abbrev pub resource_text : ListedResource → Text
resource_text r =
    codes "{\"group\": " ++ quoted r.group ++ codes ", \"resource\": " ++ quoted r.text
    ++ rest_of_resource r.namespaced

-- a member of the document, after the one before it
unfoldable pub member_text : Text → Text → Text
member_text name text = codes ",\n  " ++ quoted name ++ codes ": " ++ text

-- the document of these lists
abbrev pub document_text : UniverseLists → Text
document_text lists =
    codes "{\n  \"apiVersion\": \"rbacaudit/v1\",\n  \"kind\": \"Universe\""
    ++ member_text (codes "principals") (list_text principal_text lists.principals)
    ++ member_text (codes "namespaces") (list_text quoted lists.namespaces)
    ++ member_text (codes "verbs") (list_text quoted lists.verbs)
    ++ member_text (codes "resources") (list_text resource_text lists.resources)
    ++ member_text (codes "names") (list_text quoted lists.names)
    ++ member_text (codes "urls") (list_text quoted lists.urls)
    ++ codes "\n}\n"

-- the text is the document of the lists, each entry once and in order
abbrev pub IsDocument : UniverseLists → Text → Type 0
IsDocument lists text =
    (each : UniverseLists) × AreOnceEach lists each × (text ≡ document_text each)

-- a principal that JSON can carry: its name isn't empty, and its texts are UTF-8 (RFC 8259)
pub record IsReadable (who : Who) : Type 0 where
  pub named : who_name who ≢ []
  pub name : IsUtf8 (who_name who)
  pub given : All IsUtf8 (given_of who)

-- lists that JSON can carry; the words of an export come from JSON, so they are UTF-8
pub record AreReadable (lists : UniverseLists) : Type 0 where
  pub principals : All IsReadable lists.principals
  pub namespaces : All IsUtf8 lists.namespaces
  pub verbs : All IsUtf8 lists.verbs
  pub resources : All (λ r. IsUtf8 r.group × IsUtf8 r.text) lists.resources
  pub names : All IsUtf8 lists.names
  pub urls : All IsUtf8 lists.urls
