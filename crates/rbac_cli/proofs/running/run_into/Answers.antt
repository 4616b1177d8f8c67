use Rattle.std.proofs.Common.{◌≡◌, ◌++◌}
use Rattle.rbac_cli.proofs.TakenBytes.{ends_as}
use Rattle.rbac_cli.proofs.running.run_into.Goals as goal

pub returns-clause-ends : goal.returns-clause-ends
returns-clause-ends c =
    ends_as _ (λ bytes. c.run.new.sink.writer.items ≡ c.args.sink.now.writer.items ++ bytes) (λ bytes took. took.appends)
    c.args.command.now c.args.inputs.now c.args.log.now c.run.result c.run.ensures.ends
