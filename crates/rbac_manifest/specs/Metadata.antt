-- The name, namespace and labels of an object.
use Rattle.std.specs.Prelude.{◌||◌, Bool, not, [], codes, Option, Some, None, option_and_then}
use Rattle.std.specs.Prelude.{unwrap_or, is_none, if◌then◌else◌}
use Rattle.serde_json.specs.Data.{Data}
use Rattle.json_fields.specs.Fields.{field, text_at, name_at, is_object}
use Rattle.rbac_manifest.specs.Label.{labels_at}
use Rattle.rbac_manifest.specs.declared.metadata.Metadata.{Metadata}

-- metadata must have a name that isn't empty; a namespace, if it is given, must be a text, and
-- labels must map texts to texts
abbrev pub is_bad_metadata : Data → Bool
is_bad_metadata m = not (is_object m) || is_none (labels_at (codes "labels") m)
    || is_none (name_at m) || is_none (text_at (codes "namespace") m)

-- the parts of metadata; a missing namespace is empty
abbrev pub metadata_in : Data → Metadata
metadata_in m = record {
  name = unwrap_or (name_at m) [];
  namespace = unwrap_or (text_at (codes "namespace") m) [];
  labels = unwrap_or (labels_at (codes "labels") m) [];
}

-- the parts of metadata, unless it is bad
unfoldable pub metadata_from : Data → Option Metadata
metadata_from m = if is_bad_metadata m then None else Some (metadata_in m)

-- the metadata of a document, unless it is bad
unfoldable pub metadata_at : Data → Option Metadata
metadata_at d = option_and_then metadata_from (field (codes "metadata") d)
