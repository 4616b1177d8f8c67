use Rattle.std.proofs.Common.{Any, Bor, List, Option, subst}
use Rattle.std.specs.Option.{option_copied}
use Rattle.rbac_terms.specs.Text.{Text}
use Rattle.rbac_terms.specs.declared.granting.ClusterRole.{ClusterRole}
use Rattle.rbac_paths.specs.AddingNodes.{AddsNodes, IsInScope, IsInSomeScope}
use Rattle.rbac_paths.specs.Nodes.{NodeView}
use Rattle.rbac_paths.proofs.NodesAdded.{adds_all, adds_more, adds_none, adds_same}
use Rattle.rbac_paths.proofs.Scopes.{in_scopes}
use Rattle.rbac_paths.proofs.nodes.add_scopes.Goals as goal

abbrev IsThere : List (Bor ClusterRole) → Option (Bor Text) → NodeView → Type 0
IsThere roles scope y = IsInScope roles (option_copied scope) y

pub loop-scope-init : goal.loop-scope-init
loop-scope-init c = adds_none (IsThere c.in_ok-roles.roles.items) c.args.nodes.now

pub loop-scope-preserved : goal.loop-scope-preserved
loop-scope-preserved c =
    let roles = c.in_ok-roles.roles.items in
    adds_more (IsThere roles) c.deref-scope-items.result.now c.loop-scope.scope-index c.scope-item.result c.args.nodes.now c.loop-scope.nodes c.add_in_scope.new.nodes
    c.loop-scope-test.true c.scope-item.is c.loop-scope.invariant
    (subst (λ (rs : List (Bor ClusterRole)). AddsNodes (IsThere rs c.scope-item.result) c.loop-scope.nodes c.add_in_scope.new.nodes) c.as_slice.ensures.value c.in_ok-add_in_scope.ensures)

pub returns : goal.returns
returns c =
    let p = c.args.policy.now in
    let names = c.args.names.now in
    let roles = c.in_ok-roles.roles.items in
    let scopes = c.in_ok-scopes.scopes.items in
    adds_same (λ y. Any (λ scope. IsThere roles scope y) scopes) (IsInSomeScope p names) c.args.nodes.now c.loop-scope.nodes
    (in_scopes p names roles c.in_ok-roles.ensures (λ (scope : Option (Bor Text)). option_copied scope) scopes c.in_ok-scopes.ensures)
    (adds_all (IsThere roles) c.deref-scope-items.result.now scopes c.loop-scope.scope-index c.args.nodes.now c.loop-scope.nodes
    c.loop-scope-test.false c.deref-scope-items.ensures.value c.loop-scope.invariant)
