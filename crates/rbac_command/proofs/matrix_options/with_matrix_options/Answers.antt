use Rattle.clap.specs.Words.{App, with_rule}
use Rattle.rbac_command.specs.Flags.{every_rule}
use Rattle.rbac_command.proofs.Steps.{rule, and_rule}
use Rattle.rbac_command.proofs.matrix_options.with_matrix_options.Goals as goal

pub returns-clause-app : goal.returns-clause-app
returns-clause-app c =
    let every = rule c.args.command c.with-command.result _ _ c.flag.ensures.rule c.with-command.ensures.app in
    and_rule c.args.command c.with-command.result c.with.result (λ (a : App). with_rule a every_rule) _ _ every c.flag-2.ensures.rule c.with.ensures.app
