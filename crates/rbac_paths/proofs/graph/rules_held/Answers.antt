use Rattle.std.proofs.lemmas.Result.{IfOk-weaker}
use Rattle.rbac_paths.specs.Nodes.{node_of}
use Rattle.rbac_paths.proofs.WhatDecides.{held_decide}
use Rattle.rbac_paths.proofs.graph.rules_held.Goals as goal

pub returns-in_default : goal.returns-in_default
returns-in_default c steps nobody =
    IfOk-weaker c.holdings_of.result _ _ (λ hs held. held_decide c.args.policy.now c.requires.policy (node_of c.args.node) hs.items held steps) c.holdings_of.ensures
