use Rattle.clap.specs.Words.{App, with_rule}
use Rattle.rbac_command.specs.App.{groups_rule}
use Rattle.rbac_command.proofs.Steps.{rule, and_rule}
use Rattle.rbac_command.proofs.build.with_groups.Goals as goal

pub returns-clause-app : goal.returns-clause-app
returns-clause-app c =
    let groups = rule c.args.command c.with-command.result _ _ c.groups_arg.ensures.rule c.with-command.ensures.app in
    and_rule c.args.command c.with-command.result c.with.result (λ (a : App). with_rule a groups_rule) _ _ groups c.group_arg.ensures.rule c.with.ensures.app
