use Rattle.std.proofs.Common.{subst}
use Rattle.std.proofs.lemmas.Result.{IfOk-weaker}
use Rattle.rbac_model.specs.Policies.{PolicyView}
use Rattle.rbac_index.specs.HolderViews.{requested_of}
use Rattle.rbac_index.specs.WhoCan.{AreListedHolders}
use Rattle.rbac_cli.proofs.who_can.holders_of.Goals as goal

pub returns-clause-holders : goal.returns-clause-holders
returns-clause-holders c =
    IfOk-weaker c.holders.result _ _
    (λ xs holders. subst (λ (p : PolicyView). AreListedHolders p.held c.args.scope.now c.args.every c.args.verb.now (requested_of c.args.requested) xs) c.in_ok-index.ensures.index holders)
    c.holders.ensures
