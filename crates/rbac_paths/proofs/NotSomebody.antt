-- A node that is no user and no group.
use Rattle.std.proofs.Common.{◌≡◌, Bor, refl}
use Rattle.rbac_terms.specs.Principals.{Who}
use Rattle.rbac_paths.specs.Joints.{IsNobody}
use Rattle.rbac_paths.specs.Nodes.{node_of}
use Rattle.rbac_paths.specs.declared.node.Node.{Node}
use Rattle.rbac_paths.specs.declared.node.Node.TheVariants as node

pub not_somebody : (n : Node) → ((who : Bor Who) → n ≡ node.Somebody who → ⊥) → IsNobody (node_of n)
not_somebody (node.Somebody who) isnt = absurd (isnt who refl)
not_somebody (node.ClusterRole role scope) isnt = tt
not_somebody (node.Role role) isnt = tt
not_somebody (node.Everything scope) isnt = tt
