use Rattle.rbac_paths.specs.Nodes.{node_of}
use Rattle.rbac_paths.proofs.Taken.{some_asked}
use Rattle.rbac_paths.proofs.rows.WordRow.is_taken_by_some.Goals as goal

pub returns-in-Some : goal.returns-in-Some
returns-in-Some c =
    let same = some_asked c.args.self.now (node_of c.args.node) c.in-Some.asked.namespace.now c.in-Some.asked.own.now c.in-Some.ensures c.args.holdings.now in
    (λ t. same.0 (c.is_asked_by_some.ensures.0 t), λ w. c.is_asked_by_some.ensures.1 (same.1 w))
