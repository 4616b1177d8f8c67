-- API resource lists (Kubernetes API, APIResourceList).
use Rattle.std.specs.Prelude.{◌==◌, ◌||◌, Bool, true, false, not, List, [], ◌∷◌, codes}
use Rattle.std.specs.Prelude.{Option, Some, None, if◌then◌else◌}
use Rattle.std.specs.List.{list_any, slice_split}
use Rattle.serde_json.specs.Data.{Data}
use Rattle.json_fields.specs.Fields.{◌>>=◌, list_field, texts_field, text_at, name_at, flag_at}
use Rattle.json_fields.specs.Fields.{is_empty, text, is_no_text, is_no_texts, is_no_flag, any_of}
use Rattle.json_fields.specs.Lists.{all_at}
use Rattle.rbac_manifest.specs.Lists.{is_bad_list}
use Rattle.rbac_terms.specs.Text.{Text, slash}
use Rattle.rbac_terms.specs.Targets.{is_path}
use Rattle.rbac_catalogue.specs.declared.entry.Entry.{Entry}

-- the parts of a text, between its slashes
abbrev pub parts : Text → List Text
parts text = slice_split (λ b. b == slash) text

-- the group of VERSION or GROUP/VERSION, by its parts; VERSION alone belongs to the core group,
-- which is the empty text
abbrev pub group_by : List Text → Option Text
group_by (version ∷ []) = Some []
group_by (group ∷ version ∷ []) = Some group
group_by others = None

-- the group that a group version names, unless it has another form; none of its parts may be empty
unfoldable pub group_of : Text → Option Text
group_of version = if list_any is_empty (parts version) then None else group_by (parts version)

-- VERSION or GROUP/VERSION has one part or two
abbrev pub are_one_or_two : List Text → Bool
are_one_or_two (version ∷ []) = true
are_one_or_two (group ∷ version ∷ []) = true
are_one_or_two others = false

-- a group version is bad if it has an empty part, or more than two parts
unfoldable pub is_bad_group_version : Text → Bool
is_bad_group_version version = list_any is_empty (parts version)
    || not (are_one_or_two (parts version))

-- the name of an entry, like `pods` or `pods/log`: a text that isn't empty and isn't a path (own)
unfoldable pub resource_name_at : Data → Option Text
resource_name_at d =
    name_at d >>= λ name. if is_path name then None else Some name

-- the entry that an item gives, unless it is bad; its group is that of the list, and a missing
-- `namespaced` is false
unfoldable pub entry_at : Text → Data → Option Entry
entry_at group d =
    resource_name_at d >>= λ name.
    text_at (codes "singularName") d >>= λ singular.
    flag_at false (codes "namespaced") d >>= λ namespaced.
    texts_field (codes "shortNames") d >>= λ short_names.
    texts_field (codes "verbs") d >>= λ verbs.
    Some (record {
      group = group;
      name = name;
      singular = singular;
      short_names = short_names;
      namespaced = namespaced;
      verbs = verbs;
    })

-- an entry is bad if its name isn't a text, is empty or is a path, or if another field has another
-- shape; an item that isn't an object has no name
unfoldable pub is_bad_entry : Data → Bool
is_bad_entry e = any_of (
    is_empty (text (codes "name") e)
    ∷ is_path (text (codes "name") e)
    ∷ is_no_text (codes "singularName") e
    ∷ is_no_flag (codes "namespaced") e
    ∷ is_no_texts (codes "shortNames") e
    ∷ is_no_texts (codes "verbs") e
    ∷ [])

-- an API resource list is bad if its group version isn't a text or is bad, if its resources aren't
-- a list, or if one of them is bad
unfoldable pub is_bad_api_list : Data → Bool
is_bad_api_list d = any_of (
    is_no_text (codes "groupVersion") d
    ∷ is_bad_group_version (text (codes "groupVersion") d)
    ∷ is_bad_list is_bad_entry (list_field (codes "resources") d)
    ∷ [])

-- the entries of an API resource list, in written order, unless its group version or an item is bad
-- (M9)
unfoldable pub entries_at : Data → Option (List Entry)
entries_at d =
    text_at (codes "groupVersion") d >>= λ version.
    group_of version >>= λ group.
    list_field (codes "resources") d >>= λ items.
    all_at (entry_at group) items
