use Rattle.std.proofs.Common.{◌≡◌, ◌∙◌, Some, ap, false, is_some, sym, true}
use Rattle.std.specs.BTreeMap.{get}
use Rattle.rbac_terms.specs.Text.{Text, text_cmp}
use Rattle.rbac_paths.specs.NodeLists.{node_text}
use Rattle.rbac_paths.specs.Nodes.{EverythingIn}
use Rattle.rbac_paths.proofs.Scopes.{role_nowhere, role_there}
use Rattle.rbac_paths.proofs.nodes.add_role.Goals as goal
use Rattle.rbac_paths.proofs.nodes.add_role.Goals.{then-contains_key+in_ok-add_node, else-contains_key}

pub returns : goal.returns
returns c =
    let role = c.args.role.now in
    let old = c.args.nodes.now in
    let tells : c.contains_key.result ≡ is_some (get text_cmp old (node_text (EverythingIn (Some role.namespace)))) =
    c.contains_key.ensures ∙ ap (λ (t : Text). is_some (get text_cmp old t)) c.in_ok-scope.ensures in
    elim c.if-contains_key.branch [
      | then-contains_key+in_ok-add_node w ↦ rw w.nodes-is
          (role_there role old w.add_node.new.nodes (sym tells ∙ w.if-contains_key.true) w.in_ok-add_node.ensures)
      | else-contains_key w ↦ rw w.nodes-is
          (role_nowhere role old (λ some. (let both : true ≡ false = sym some ∙ sym tells ∙ w.if-contains_key.false in cc)))
    ]
