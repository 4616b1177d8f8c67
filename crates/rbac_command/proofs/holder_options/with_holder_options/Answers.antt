use Rattle.clap.specs.Words.{App, with_rule}
use Rattle.rbac_command.specs.Flags.{every_rule}
use Rattle.rbac_command.specs.HolderOptions.{anywhere_rule, any_name_rule, members_rule}
use Rattle.rbac_command.proofs.Steps.{rule, and_rule}
use Rattle.rbac_command.proofs.holder_options.with_holder_options.Goals as goal

pub returns-clause-app : goal.returns-clause-app
returns-clause-app c =
    let anywhere = rule c.args.command c.with-command.result _ _ c.flag.ensures.rule c.with-command.ensures.app in
    let any_name = and_rule c.args.command c.with-command.result c.with-command-2.result (λ (a : App). with_rule a anywhere_rule) _ _ anywhere c.flag-2.ensures.rule c.with-command-2.ensures.app in
    let every = and_rule c.args.command c.with-command-2.result c.with-command-3.result (λ (a : App). with_rule (with_rule a anywhere_rule) any_name_rule) _ _ any_name c.flag-3.ensures.rule c.with-command-3.ensures.app in
    let members = and_rule c.args.command c.with-command-3.result c.with-command-4.result (λ (a : App). with_rule (with_rule (with_rule a anywhere_rule) any_name_rule) every_rule) _ _ every c.flag-4.ensures.rule c.with-command-4.ensures.app in
    and_rule c.args.command c.with-command-4.result c.with.result (λ (a : App). with_rule (with_rule (with_rule (with_rule a anywhere_rule) any_name_rule) every_rule) members_rule) _ _ members c.flag-5.ensures.rule c.with.ensures.app
