use Rattle.clap.specs.Words.{App, with_rule}
use Rattle.rbac_command.specs.App.{who_rule}
use Rattle.rbac_command.proofs.Steps.{rule, and_rule}
use Rattle.rbac_command.proofs.build.with_who.Goals as goal

pub returns-clause-app : goal.returns-clause-app
returns-clause-app c =
    let who = rule c.args.command c.with-command.result _ _ c.who_arg.ensures.rule c.with-command.ensures.app in
    and_rule c.args.command c.with-command.result c.with.result (λ (a : App). with_rule a who_rule) _ _ who c.files_arg.ensures.rule c.with.ensures.app
