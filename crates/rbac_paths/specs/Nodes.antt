-- Nodes: whom and what one can take over.
use Rattle.std.specs.Prelude.{◌≡◌, Option}
use Rattle.std.specs.Option.{option_copied}
use Rattle.rbac_terms.specs.Text.{Text}
use Rattle.rbac_terms.specs.Principals.{Who, AsUser, AsMember, account_user, IsPart}
use Rattle.rbac_terms.specs.declared.granting.ClusterRole.{ClusterRole}
use Rattle.rbac_terms.specs.declared.granting.Role.{Role}
use Rattle.rbac_paths.specs.declared.node.Node.{Node}
use Rattle.rbac_paths.specs.declared.node.Node.TheVariants as of

-- a node (own): a user or a group; a cluster role, bound in a namespace, or in the whole cluster if
-- there is none; a Role, bound in its own namespace; or everything in a namespace, or in the whole
-- cluster if there is none
pub data NodeView : Type 0 where
  Somebody : Who → NodeView
  ClusterRoleIn : ClusterRole → Option Text → NodeView
  OwnRole : Role → NodeView
  EverythingIn : Option Text → NodeView

-- the node whose parts these references point to
abbrev pub node_of : Node → NodeView
node_of (of.Somebody who) = Somebody who.now
node_of (of.ClusterRole role scope) = ClusterRoleIn role.now (option_copied scope)
node_of (of.Role role) = OwnRole role.now
node_of (of.Everything scope) = EverythingIn (option_copied scope)

-- the principal is the user of the service account with that namespace and name (Using RBAC
-- Authorization, Referring to subjects)
abbrev pub IsAccountNamed : Who → Text → Text → Type 0
IsAccountNamed (AsUser user given) namespace name =
    (user ≡ account_user namespace name) × IsPart namespace × IsPart name
IsAccountNamed (AsMember group) namespace name = ⊥
