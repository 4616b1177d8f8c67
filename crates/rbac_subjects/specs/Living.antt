use Rattle.std.specs.Prelude.{◌≢◌, Option, Some, None}
use Rattle.std.specs.declared.cmp.Ordering.{Ordering}
use Rattle.std.specs.declared.cmp.Ordering.TheVariants.{Less}
use Rattle.rbac_terms.specs.Text.{Text, text_cmp}
use Rattle.rbac_terms.specs.Targets.{What}
use Rattle.rbac_terms.specs.declared.granting.Binding.{Binding}
use Rattle.rbac_model.specs.Policies.{Live}

-- how a binding's namespace compares to a namespace: a ClusterRoleBinding comes before every
-- namespace
abbrev pub namespace_cmp : Option Text → Text → Ordering
namespace_cmp None asked = Less
namespace_cmp (Some namespace) asked = text_cmp namespace asked

-- the binding is a RoleBinding, and live
abbrev pub IsLiveRoleBinding : Binding → Text → What → Type 0
IsLiveRoleBinding b namespace t = (b.namespace ≢ None) × Live b.namespace namespace t
