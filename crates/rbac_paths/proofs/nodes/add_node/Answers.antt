use Rattle.std.proofs.Common.{◌≡◌, Some, cond, subst}
use Rattle.std.specs.BTreeMap.{get}
use Rattle.std.specs.Ordering.{is_eq}
use Rattle.rbac_terms.specs.Text.{Text, text_cmp}
use Rattle.rbac_paths.proofs.NodesAdded.{adds_one}
use Rattle.rbac_paths.proofs.nodes.add_node.Goals as goal

pub returns : goal.returns
returns c =
    let old = c.args.nodes.now in
    let new = c.insert.new.self in
    adds_one c.args.node old new
    (subst (λ (t : Text). (k : Text) → get text_cmp new k ≡ cond (is_eq (text_cmp t k)) (Some c.args.node) (get text_cmp old k))
    c.in_ok-text_of.ensures c.in_ok-insert.ensures.updates.0)
