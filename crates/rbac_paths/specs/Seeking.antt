-- Which nodes are looked for in a list.
use Rattle.std.specs.Prelude.{◌≡◌}
use Rattle.rbac_terms.specs.Principals.{Who, who_key}
use Rattle.rbac_paths.specs.Joints.{IsNobody}
use Rattle.rbac_paths.specs.Nodes.{NodeView, Somebody, ClusterRoleIn, OwnRole, EverythingIn}
use Rattle.rbac_paths.specs.declared.seeking.Sought.{Sought}
use Rattle.rbac_paths.specs.declared.seeking.Sought.TheVariants as sought

-- the node is a user or a group with the key of this principal
abbrev pub HasKeyOf : Who → NodeView → Type 0
HasKeyOf who (Somebody other) = who_key other ≡ who_key who
HasKeyOf who (ClusterRoleIn role scope) = ⊥
HasKeyOf who (OwnRole role) = ⊥
HasKeyOf who (EverythingIn scope) = ⊥

-- the node is a user or a group
abbrev pub IsSomebody : NodeView → Type 0
IsSomebody (Somebody who) = Unit {0}
IsSomebody (ClusterRoleIn role scope) = ⊥
IsSomebody (OwnRole role) = ⊥
IsSomebody (EverythingIn scope) = ⊥

-- the node is one of those that are looked for
abbrev pub IsSought : Sought → NodeView → Type 0
IsSought (sought.KeyOf who) y = HasKeyOf who.now y
IsSought sought.Somebody y = IsSomebody y
IsSought sought.Nobody y = IsNobody y
