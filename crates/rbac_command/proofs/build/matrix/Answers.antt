use Rattle.std.proofs.Common.{Ok}
use Rattle.rbac_command.specs.MatrixOptions.{with_matrix_options}
use Rattle.rbac_command.proofs.Steps.{from, rule_from}
use Rattle.rbac_command.proofs.build.matrix.Goals as goal

pub returns-clause-app : goal.returns-clause-app
returns-clause-app c =
    let options = from (Ok c.named-command.result) c.with_matrix_options-command.result with_matrix_options _ c.named-command.ensures.app c.with_matrix_options-command.ensures.app in
    let after = rule_from c.with_matrix_options-command.result c.with-command.result _ _ _ options c.after_arg.ensures.rule c.with-command.ensures.app in
    let limit = rule_from c.with-command.result c.with-command-2.result _ _ _ after c.limit_arg.ensures.rule c.with-command-2.ensures.app in
    rule_from c.with-command-2.result c.with.result _ _ _ limit c.files_arg.ensures.rule c.with.ensures.app
