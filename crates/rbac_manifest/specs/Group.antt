-- The members of a group, as a Group document lists them (OpenShift, Group).
use Rattle.std.specs.Prelude.{Bool, codes, Option, Some}
use Rattle.serde_json.specs.Data.{Data}
use Rattle.json_fields.specs.Fields.{◌>>=◌, list_field}
use Rattle.rbac_terms.specs.Text.{Text}
use Rattle.rbac_groups.specs.declared.membership.Membership.{Membership}
use Rattle.rbac_manifest.specs.Lists.{is_bad_list}
use Rattle.rbac_manifest.specs.Metadata.{metadata_at}
use Rattle.rbac_manifest.specs.UniverseDocument.{name_in, is_bad_name, items_field}

-- the group that a document is about, by its metadata, with the names of the users that it lists,
-- in written order; missing users are none
unfoldable pub membership_at : Data → Option Membership
membership_at d =
    metadata_at d >>= λ m.
    items_field name_in (codes "users") d >>= λ users.
    Some (record { group = m.name; users = users })

-- the members are bad if they aren't a list, or if one of them isn't a text or is empty
unfoldable pub is_bad_group : Data → Bool
is_bad_group d = is_bad_list is_bad_name (list_field (codes "users") d)
