use Rattle.rbac_paths.specs.Nodes.{node_of}
use Rattle.rbac_paths.proofs.Mapped.{mapped_at}
use Rattle.rbac_paths.proofs.same_others.goes_on_at.Goals as goal

pub returns-in-Some : goal.returns-in-Some
returns-in-Some c =
    let there = c.in-Some.ensures.lookup in
    λ t. (node_of c.in-Some.node.now, mapped_at node_of c.args.nodes.now c.args.place c.in-Some.node.now there.3.0 there.1, c.goes_on.ensures t)
