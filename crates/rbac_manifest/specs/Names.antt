-- The names of the objects that documents give: kind, namespace (empty if cluster-scoped) and name.
use Rattle.std.specs.Prelude.{Bool, List, [], ◌∷◌, ◌++◌, codes, map}
use Rattle.std.specs.List.{list_any}
use Rattle.std.specs.Ordering.{is_eq}
use Rattle.std.specs.declared.cmp.Ordering.{Ordering}
use Rattle.std.specs.Cmp.Lexicographic.{slice_cmp}
use Rattle.rbac_terms.specs.Text.{Text, text_cmp}
use Rattle.rbac_model.specs.Policies.{role_name, cluster_role_name, binding_name}
use Rattle.rbac_model.specs.declared.objects.Object.{Object}
use Rattle.rbac_model.specs.declared.objects.Object.TheVariants.{Role as ARole}
use Rattle.rbac_model.specs.declared.objects.Object.TheVariants.{ClusterRole as AClusterRole}
use Rattle.rbac_model.specs.declared.objects.Object.TheVariants.{Binding as ABinding}
use Rattle.rbac_lists.specs.declared.given_lists.Account.{Account}
use Rattle.rbac_manifest.specs.declared.names.ObjectKind.{ObjectKind}
use Rattle.rbac_manifest.specs.declared.names.ObjectKind.TheVariants.{ClusterRole}
use Rattle.rbac_manifest.specs.declared.names.ObjectKind.TheVariants.{ClusterRoleBinding}
use Rattle.rbac_manifest.specs.declared.names.ObjectKind.TheVariants.{Namespace, Role}
use Rattle.rbac_manifest.specs.declared.names.ObjectKind.TheVariants.{RoleBinding}
use Rattle.rbac_manifest.specs.declared.names.ObjectKind.TheVariants.{ServiceAccount}

-- the order of names: text by text, each by its bytes
abbrev pub name_cmp : List Text → List Text → Ordering
name_cmp = slice_cmp text_cmp

-- whether one of these names is this one
abbrev pub has_name : List (List Text) → List Text → Bool
has_name names name = list_any (λ n. is_eq (name_cmp n name)) names

-- the kind as documents give it
abbrev pub kind_word : ObjectKind → Text
kind_word ClusterRole = codes "ClusterRole"
kind_word ClusterRoleBinding = codes "ClusterRoleBinding"
kind_word Namespace = codes "Namespace"
kind_word Role = codes "Role"
kind_word RoleBinding = codes "RoleBinding"
kind_word ServiceAccount = codes "ServiceAccount"

-- the name of a role or a binding
abbrev pub object_name : Object → List Text
object_name (ARole r) = role_name r
object_name (AClusterRole r) = cluster_role_name r
object_name (ABinding b) = binding_name b

-- the name of a Namespace
abbrev pub namespace_name : Text → List Text
namespace_name name = codes "Namespace" ∷ [] ∷ name ∷ []

-- the name of a ServiceAccount
abbrev pub account_name : Account → List Text
account_name a = codes "ServiceAccount" ∷ a.namespace ∷ a.name ∷ []

-- the names of all documents of these kinds
abbrev pub names_given : List Object → List Text → List Account → List (List Text)
names_given objects namespaces accounts =
    map object_name objects ++ map namespace_name namespaces ++ map account_name accounts
