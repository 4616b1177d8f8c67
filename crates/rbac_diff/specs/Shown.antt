-- How contracts see the program's permissions.
use Rattle.std.specs.Option.{option_copied}
use Rattle.rbac_diff.specs.Permissions.{Permitted as PermittedView, OnResource, OnUrl, one_star}
use Rattle.rbac_diff.specs.Permissions.{PermissionView}
use Rattle.rbac_diff.specs.declared.permission.Permission.{Permission}
use Rattle.rbac_diff.specs.declared.permission.Permitted.{Permitted}
use Rattle.rbac_diff.specs.declared.permission.Permitted.TheVariants.{Resource, Url}

-- what is permitted
abbrev pub permitted_of : Permitted → PermittedView
permitted_of (Resource namespace group resource name) =
    OnResource (option_copied namespace) group.now resource.now (option_copied name)
permitted_of (Url word) = OnUrl (one_star word.now)

-- the permission
abbrev pub permission_of : Permission → PermissionView
permission_of p = record {
  principal = p.principal.now;
  verb = p.verb.now;
  target = permitted_of p.target;
}
