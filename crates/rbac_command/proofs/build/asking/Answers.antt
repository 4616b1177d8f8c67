use Rattle.std.proofs.lemmas.Result.{IfOk-weaker}
use Rattle.rbac_command.specs.App.{bare_app, can_i_app, who_can_app, rules_app}
use Rattle.rbac_command.proofs.Steps.{added}
use Rattle.rbac_command.proofs.build.asking.Goals as goal

pub returns : goal.returns
returns c =
    let first = added c.can_i.result bare_app _ _ can_i_app c.in_ok-command.ensures c.can_i.ensures.app c.in_ok-command-2.ensures.app in
    let second = added c.who_can.result _ _ _ who_can_app first c.who_can.ensures.app c.in_ok-command-3.ensures.app in
    IfOk-weaker c.with_sub-3.result _ _ (λ m h. added c.rules.result _ _ _ rules_app second c.rules.ensures.app h) c.with_sub-3.ensures.app
