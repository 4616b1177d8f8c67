-- Which members of a document are read.
use Rattle.std.specs.Prelude.{◌||◌, Bool, List, [], ◌∷◌, codes, Option, Some, None, if◌then◌else◌}
use Rattle.std.specs.List.{list_any}
use Rattle.std.specs.Str.{bytes_eq}
use Rattle.serde_json.specs.Data.{Data}
use Rattle.json_list.specs.Lean.{lean}
use Rattle.rbac_terms.specs.Text.{Text}
use Rattle.rbac_manifest.specs.declared.part.Part.{Part}
use Rattle.rbac_manifest.specs.declared.part.Part.TheVariants.{Document, Metadata, Whole}

-- a name is among these
abbrev pub is_among : List Text → Text → Bool
is_among names name = list_any (bytes_eq name) names

-- the members of roles and bindings that are read, besides the metadata
abbrev pub object_names : List Text
object_names =
    codes "kind" ∷ codes "apiVersion" ∷ codes "roleRef" ∷ codes "subjects" ∷ codes "rules"
    ∷ codes "aggregationRule" ∷ []

-- the members of API resource lists, of Universe documents and of Groups that are read, besides
-- those above
abbrev pub list_names : List Text
list_names =
    codes "groupVersion" ∷ codes "resources" ∷ codes "principals" ∷ codes "namespaces"
    ∷ codes "verbs" ∷ codes "names" ∷ codes "urls" ∷ codes "users" ∷ []

-- the members of the metadata that are read
abbrev pub metadata_names : List Text
metadata_names = codes "name" ∷ codes "namespace" ∷ codes "labels" ∷ []

-- what is read of a member of this name: of a document, the metadata in part, and the members
-- listed above as a whole; of metadata, the members listed above as a whole; and no other member of
-- the two (own)
unfoldable pub read_under : Part → Text → Option Part
read_under Document name =
    if bytes_eq name (codes "metadata") then Some Metadata
    else if is_among object_names name || is_among list_names name then Some Whole
    else None
read_under Metadata name = if is_among metadata_names name then Some Whole else None
read_under Whole name = Some Whole

-- a document without the members that aren't read
abbrev pub read_of : Data → Data
read_of d = lean read_under Document d
