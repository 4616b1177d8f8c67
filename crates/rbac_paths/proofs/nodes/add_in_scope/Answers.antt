use Rattle.std.proofs.Common.{◌≡◌, Any, Bor, Option, refl}
use Rattle.std.specs.Option.{option_copied}
use Rattle.rbac_terms.specs.Text.{Text}
use Rattle.rbac_terms.specs.declared.granting.ClusterRole.{ClusterRole}
use Rattle.rbac_paths.specs.Nodes.{NodeView, ClusterRoleIn, EverythingIn}
use Rattle.rbac_paths.proofs.NodesAdded.{adds_all, adds_both, adds_more, adds_none}
use Rattle.rbac_paths.proofs.nodes.add_in_scope.Goals as goal

abbrev IsThere : Option Text → Bor ClusterRole → NodeView → Type 0
IsThere scope role y = y ≡ ClusterRoleIn role.now scope

pub loop-role-init : goal.loop-role-init
loop-role-init c = adds_none (IsThere (option_copied c.args.scope)) c.add_node.new.nodes

pub loop-role-preserved : goal.loop-role-preserved
loop-role-preserved c =
    adds_more (IsThere (option_copied c.args.scope)) c.args.roles.now c.loop-role.role-index c.role-item.result c.add_node.new.nodes c.loop-role.nodes c.add_node-in-loop-role.new.nodes
    c.loop-role-test.true c.role-item.is c.loop-role.invariant c.in_ok-add_node-2.ensures

pub returns : goal.returns
returns c =
    let scope = option_copied c.args.scope in
    let roles = c.args.roles.now in
    adds_both (λ y. y ≡ EverythingIn scope) (λ y. Any (λ role. IsThere scope role y) roles) c.args.nodes.now c.add_node.new.nodes c.loop-role.nodes c.in_ok-add_node.ensures
    (adds_all (IsThere scope) roles roles c.loop-role.role-index c.add_node.new.nodes c.loop-role.nodes
    c.loop-role-test.false refl c.loop-role.invariant)
