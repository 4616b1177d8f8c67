use Rattle.rbac_paths.specs.Nodes.{node_of}
use Rattle.rbac_paths.proofs.Others.{about_node, told_some}
use Rattle.rbac_paths.proofs.other_nodes.takes_nobody.Goals as goal

pub returns : goal.returns
returns c p decide nobody =
    let x = node_of c.args.from in
    let y = node_of c.args.to in
    rw c.is_some.ensures (told_some p c.args.steps.now x y c.first_told.result (c.first_told.ensures p (about_node p c.args.steps.now x c.args.holdings.now decide y nobody)))
