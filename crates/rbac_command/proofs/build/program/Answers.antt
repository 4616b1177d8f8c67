use Rattle.std.proofs.Common.{◌∙◌, ap}
use Rattle.std.proofs.lemmas.Result.{IfOk-weaker}
use Rattle.rbac_command.specs.App.{matrix_app, universe_app, lint_app, powers_app, paths_app, diff_app, rbac_app, with_log_readers}
use Rattle.rbac_command.proofs.Steps.{added}
use Rattle.rbac_command.proofs.build.program.Goals as goal

pub returns : goal.returns
unfolding rbac_app
returns c =
    let fourth = added c.matrix.result _ _ _ matrix_app c.in_ok-command.ensures c.matrix.ensures.app c.in_ok-command-2.ensures.app in
    let fifth = added c.universe.result _ _ _ universe_app fourth c.universe.ensures.app c.in_ok-command-3.ensures.app in
    let sixth = added c.lint.result _ _ _ lint_app fifth c.lint.ensures.app c.in_ok-command-4.ensures.app in
    let seventh = added c.powers.result _ _ _ powers_app sixth c.powers.ensures.app c.in_ok-command-5.ensures.app in
    let eighth = added c.paths.result _ _ _ paths_app seventh c.paths.ensures.app c.in_ok-command-6.ensures.app in
    let ninth = added c.diff.result _ _ _ diff_app eighth c.diff.ensures.app c.in_ok-command-7.ensures.app in
    IfOk-weaker c.with_log_readers.result _ _ (λ m h. h ∙ ap with_log_readers ninth) c.with_log_readers.ensures
