use Rattle.std.proofs.Common.{Ok}
use Rattle.rbac_command.specs.App.{with_groups, with_scope, with_question}
use Rattle.rbac_command.proofs.Steps.{from, rule_from}
use Rattle.rbac_command.proofs.build.can_i.Goals as goal

pub returns-clause-app : goal.returns-clause-app
returns-clause-app c =
    let user = rule_from (Ok c.named-command.result) c.with-command.result _ _ _ c.named-command.ensures.app c.user_arg.ensures.rule c.with-command.ensures.app in
    let groups = from c.with-command.result c.with_groups-command.result with_groups _ user c.with_groups-command.ensures.app in
    let scope = from c.with_groups-command.result c.with_scope-command.result with_scope _ groups c.with_scope-command.ensures.app in
    let quiet = rule_from c.with_scope-command.result c.with-command-2.result _ _ _ scope c.quiet_arg.ensures.rule c.with-command-2.ensures.app in
    let why = rule_from c.with-command-2.result c.with-command-3.result _ _ _ quiet c.flag.ensures.rule c.with-command-3.ensures.app in
    let why_not = rule_from c.with-command-3.result c.with-command-4.result _ _ _ why c.flag-2.ensures.rule c.with-command-4.ensures.app in
    from c.with-command-4.result c.with_question.result with_question _ why_not c.with_question.ensures.app
