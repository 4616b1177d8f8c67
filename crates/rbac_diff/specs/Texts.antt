-- How a permission is printed (own).
use Rattle.std.specs.Prelude.{[], ◌++◌}
use Rattle.rbac_terms.specs.Text.{Text}
use Rattle.rbac_terms.specs.Principals.{who_key}
use Rattle.rbac_text.specs.Choice.{choice_and_tab}
use Rattle.rbac_text.specs.Row.{field_and_tab}
use Rattle.rbac_diff.specs.Permissions.{Permitted, OnResource, OnUrl, PermissionView}

-- the namespace of what is permitted; a URL has none
abbrev pub namespace_text : Permitted → Text
namespace_text (OnResource namespace group resource name) = choice_and_tab namespace
namespace_text (OnUrl url) = field_and_tab []

-- the API group, the resource or URL, and the object name of what is permitted
abbrev pub target_text : Permitted → Text
target_text (OnResource namespace group resource name) =
    field_and_tab group ++ field_and_tab resource ++ choice_and_tab name
target_text (OnUrl url) = field_and_tab [] ++ field_and_tab url ++ field_and_tab []

-- a permission: six fields, each with the tab after it
abbrev pub permission_text : PermissionView → Text
permission_text p =
    field_and_tab (who_key p.principal) ++ namespace_text p.target ++ field_and_tab p.verb
    ++ target_text p.target
