use Rattle.std.proofs.Common.{◌≡◌, ◌⊎◌, [], Bor, List, None, ap, map, subst, sym}
use Rattle.std.specs.BTreeMap.{get, values}
use Rattle.std.specs.Map.{lookup}
use Rattle.std.specs.Ordering.{is_eq}
use Rattle.std.proofs.lemmas.Result.{IfOk-weaker}
use Rattle.rbac_terms.specs.Text.{Text, text_cmp}
use Rattle.rbac_terms.specs.Principals.{Who}
use Rattle.rbac_paths.specs.AddingNodes.{IsInSomeScope, IsSomeBoundRole, PrintedNodes}
use Rattle.rbac_paths.specs.NodeLists.{AreNodes}
use Rattle.rbac_paths.specs.Nodes.{node_of}
use Rattle.rbac_paths.specs.declared.node.Node.{Node}
use Rattle.rbac_paths.proofs.NodesAdded.{adds_both, adds_same}
use Rattle.rbac_paths.proofs.NodesInOrder.{all_nodes}
use Rattle.rbac_paths.proofs.NodeWords.{keys_tell}
use Rattle.rbac_paths.proofs.Scopes.{IsListed, IsOfThese, scopes_there, which_nodes}
use Rattle.rbac_paths.proofs.nodes.nodes_of.Goals as goal

abbrev who_is : Bor Who → Who
who_is who = who.now

none_there : (m : PrintedNodes) → m.entries ≡ [] → (t : Text) → get text_cmp m t ≡ None
none_there m empty t = ap (λ (es : List (Text × Node)). lookup (λ k. is_eq (text_cmp t k)) es) empty

pub add_roles-requires-clause-scopes : goal.add_roles-requires-clause-scopes
add_roles-requires-clause-scopes c =
    let p = c.args.policy.now in
    let ps = c.args.principals.now in
    let listed = c.args.listed.now in
    let names = c.args.names.now in
    let none = c.new-nodes.result in
    scopes_there who_is ps p listed names none c.add_scopes.new.nodes (none_there none c.new-nodes.ensures.empty)
    (adds_both (IsOfThese who_is ps p listed names) (IsInSomeScope p listed) none c.add_principals.new.nodes c.add_scopes.new.nodes c.in_ok-add_principals.ensures c.in_ok-add_scopes.ensures)

pub returns : goal.returns
returns c =
    let p = c.args.policy.now in
    let ps = c.args.principals.now in
    let listed = c.args.listed.now in
    let names = c.args.names.now in
    let none = c.new-nodes.result in
    let all = c.add_roles.new.nodes in
    let adds = adds_same (λ y. (IsOfThese who_is ps p listed names y ⊎ IsInSomeScope p listed y) ⊎ IsSomeBoundRole p names y) (λ y. IsListed who_is ps p listed names y) none all (which_nodes who_is ps p listed names)
    (adds_both (λ y. IsOfThese who_is ps p listed names y ⊎ IsInSomeScope p listed y) (IsSomeBoundRole p names) none c.add_scopes.new.nodes all
    (adds_both (IsOfThese who_is ps p listed names) (IsInSomeScope p listed) none c.add_principals.new.nodes c.add_scopes.new.nodes c.in_ok-add_principals.ensures c.in_ok-add_scopes.ensures)
    c.in_ok-add_roles.ensures.added) in
    let are : AreNodes p (map who_is ps) listed names (map node_of (values all)) = all_nodes p c.in_ok-add_roles.ensures.policy.0 (map who_is ps) (keys_tell who_is ps c.requires.keys) none all (none_there none c.new-nodes.ensures.empty) c.in_order.ensures.ordered listed names adds in
    IfOk-weaker c.in_order.result (λ list. list.items ≡ values all) (λ list. AreNodes p (map who_is ps) listed names (map node_of list.items))
    (λ list is. subst (λ (xs : List Node). AreNodes p (map who_is ps) listed names (map node_of xs)) (sym is) are) c.in_order.ensures.items
