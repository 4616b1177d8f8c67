use Rattle.rbac_command.proofs.Steps.{rule_from}
use Rattle.rbac_command.proofs.build.unused.Goals as goal

pub returns-clause-app : goal.returns-clause-app
returns-clause-app c =
    let skip_system = rule_from c.with_logs-command.result c.with-command.result _ _ _ c.with_logs-command.ensures.app c.flag.ensures.rule c.with-command.ensures.app in
    rule_from c.with-command.result c.with.result _ _ _ skip_system c.files_arg.ensures.rule c.with.ensures.app
