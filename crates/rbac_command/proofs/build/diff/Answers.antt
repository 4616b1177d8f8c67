use Rattle.std.proofs.Common.{Ok}
use Rattle.rbac_command.proofs.Steps.{rule_from}
use Rattle.rbac_command.proofs.build.diff.Goals as goal

pub returns-clause-app : goal.returns-clause-app
returns-clause-app c =
    let before = rule_from (Ok c.named-command.result) c.with-command.result _ _ _ c.named-command.ensures.app c.before_files_arg.ensures.rule c.with-command.ensures.app in
    let after = rule_from c.with-command.result c.with-command-2.result _ _ _ before c.after_files_arg.ensures.rule c.with-command-2.ensures.app in
    let without = rule_from c.with-command-2.result c.with-command-3.result _ _ _ after c.without_files_arg.ensures.rule c.with-command-3.ensures.app in
    rule_from c.with-command-3.result c.with.result _ _ _ without c.with_files_arg.ensures.rule c.with.ensures.app
