-- the JSON values that a document and its entries are
use Rattle.std.proofs.Common.{List, [], ◌∷◌, map, codes}
use Rattle.json.specs.Json.{Json, Members, no_members, member}
use Rattle.json.specs.Json as json
use Rattle.rbac_terms.specs.Text.{Text}
use Rattle.rbac_terms.specs.Principals.{Who, AsUser, AsMember}
use Rattle.rbac_universe.specs.declared.lists.ListedResource.{ListedResource}
use Rattle.rbac_universe.specs.declared.lists.UniverseLists.{UniverseLists}
use Rattle.rbac_document.proofs.Spelled.{json_items}

abbrev pub list_json : {X : Type 0} → (X → Json) → List X → Json
list_json value xs = json.array (json_items (map value xs))

abbrev pub groups_json : List Text → Members
groups_json [] = no_members
groups_json (group ∷ groups) = member (codes "groups") (list_json json.string (group ∷ groups)) no_members

abbrev pub principal_json : Who → Json
principal_json (AsUser name given) = json.object (member (codes "user") (json.string name) (groups_json given))
principal_json (AsMember group) = json.object (member (codes "group") (json.string group) no_members)

abbrev pub resource_json : ListedResource → Json
resource_json r =
    json.object (member (codes "group") (json.string r.group) (member (codes "resource") (json.string r.text) (member (codes "namespaced") (json.boolean r.namespaced) no_members)))

abbrev pub lists_json : UniverseLists → Members
lists_json lists =
    member (codes "principals") (list_json principal_json lists.principals)
    (member (codes "namespaces") (list_json json.string lists.namespaces)
    (member (codes "verbs") (list_json json.string lists.verbs)
    (member (codes "resources") (list_json resource_json lists.resources)
    (member (codes "names") (list_json json.string lists.names)
    (member (codes "urls") (list_json json.string lists.urls) no_members)))))

abbrev pub document_json : UniverseLists → Json
document_json lists =
    json.object (member (codes "apiVersion") (json.string (codes "rbacaudit/v1")) (member (codes "kind") (json.string (codes "Universe")) (lists_json lists)))
