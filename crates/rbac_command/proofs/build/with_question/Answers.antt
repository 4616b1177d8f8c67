use Rattle.clap.specs.Words.{App, with_rule}
use Rattle.rbac_command.specs.App.{verb_rule, target_rule}
use Rattle.rbac_command.proofs.Steps.{rule, and_rule}
use Rattle.rbac_command.proofs.build.with_question.Goals as goal

pub returns-clause-app : goal.returns-clause-app
returns-clause-app c =
    let verb = rule c.args.command c.with-command.result _ _ c.verb_arg.ensures.rule c.with-command.ensures.app in
    let target = and_rule c.args.command c.with-command.result c.with-command-2.result (λ (a : App). with_rule a verb_rule) _ _ verb c.target_arg.ensures.rule c.with-command-2.ensures.app in
    and_rule c.args.command c.with-command-2.result c.with.result (λ (a : App). with_rule (with_rule a verb_rule) target_rule) _ _ target c.files_arg.ensures.rule c.with.ensures.app
