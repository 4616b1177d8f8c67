use Rattle.std.proofs.Common.{refl}
use Rattle.std.proofs.lemmas.Result.{IfOk-weaker}
use Rattle.clap.specs.Words.{app_of}
use Rattle.rbac_command.specs.App.{least_app, unused_app}
use Rattle.rbac_command.proofs.Steps.{added}
use Rattle.rbac_command.proofs.build.with_log_readers.Goals as goal

pub returns : goal.returns
returns c =
    let first = added c.unused.result (app_of c.args.command) _ _ unused_app refl c.unused.ensures.app c.in_ok-command.ensures.app in
    IfOk-weaker c.with_sub-2.result _ _ (λ m h. added c.least.result _ _ _ least_app first c.least.ensures.app h) c.with_sub-2.ensures.app
