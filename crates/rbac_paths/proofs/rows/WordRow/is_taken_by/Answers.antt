use Rattle.rbac_paths.specs.Nodes.{node_of}
use Rattle.rbac_paths.proofs.Taken.{asked_takes}
use Rattle.rbac_paths.proofs.rows.WordRow.is_taken_by.Goals as goal

pub returns-in-Some : goal.returns-in-Some
returns-in-Some c =
    let same = asked_takes c.args.self.now (node_of c.args.node) c.in-Some.asked.namespace.now c.in-Some.asked.own.now c.in-Some.ensures c.args.held.now in
    (λ t. same.0 (c.is_asked_by.ensures.0 t), λ w. c.is_asked_by.ensures.1 (same.1 w))
