use Rattle.std.proofs.Common.{Ok}
use Rattle.rbac_command.specs.App.{with_scope, with_question}
use Rattle.rbac_command.specs.HolderOptions.{with_holder_options}
use Rattle.rbac_command.proofs.Steps.{from, rule_from}
use Rattle.rbac_command.proofs.build.who_can.Goals as goal

pub returns-clause-app : goal.returns-clause-app
returns-clause-app c =
    let scope = from (Ok c.named-command.result) c.with_scope-command.result with_scope _ c.named-command.ensures.app c.with_scope-command.ensures.app in
    let options = from c.with_scope-command.result c.with_holder_options-command.result with_holder_options _ scope c.with_holder_options-command.ensures.app in
    let indirect = rule_from c.with_holder_options-command.result c.with-command.result _ _ _ options c.flag.ensures.rule c.with-command.ensures.app in
    let steps = rule_from c.with-command.result c.with-command-2.result _ _ _ indirect c.steps_arg.ensures.rule c.with-command-2.ensures.app in
    from c.with-command-2.result c.with_question.result with_question _ steps c.with_question.ensures.app
