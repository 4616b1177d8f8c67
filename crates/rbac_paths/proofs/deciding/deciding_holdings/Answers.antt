use Rattle.std.proofs.Common.{ap}
use Rattle.std.proofs.lemmas.Result.{IfOk-weaker}
use Rattle.rbac_paths.specs.Nodes.{node_of}
use Rattle.rbac_paths.proofs.WhatDecides.{given_for, held_decide}
use Rattle.rbac_paths.proofs.deciding.deciding_holdings.Goals as goal

pub returns-in-Somebody : goal.returns-in-Somebody
returns-in-Somebody c steps are =
    IfOk-weaker c.given_by.result _ _
    (λ hs give. given_for c.args.policy.now c.requires.policy steps (node_of c.args.node) c.args.numbers.now hs.items _ (ap node_of c.in-Somebody.is) are give) c.given_by.ensures

pub returns-in_default : goal.returns-in_default
returns-in_default c steps are =
    IfOk-weaker c.holdings_of.result _ _ (λ hs held. held_decide c.args.policy.now c.requires.policy (node_of c.args.node) hs.items held steps) c.holdings_of.ensures
