use Rattle.rbac_command.specs.App.{with_who}
use Rattle.rbac_command.proofs.Steps.{from, rule_from}
use Rattle.rbac_command.proofs.build.least.Goals as goal

pub returns-clause-app : goal.returns-clause-app
returns-clause-app c =
    let names = rule_from c.with_logs-command.result c.with-command.result _ _ _ c.with_logs-command.ensures.app c.names_arg.ensures.rule c.with-command.ensures.app in
    let name = rule_from c.with-command.result c.with-command-2.result _ _ _ names c.name_arg.ensures.rule c.with-command-2.ensures.app in
    from c.with-command-2.result c.with_who.result with_who _ name c.with_who.ensures.app
