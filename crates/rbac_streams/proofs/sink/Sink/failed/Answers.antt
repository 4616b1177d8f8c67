use Rattle.std.proofs.Common.{rules}
use Rattle.rbac_streams.proofs.sink.Sink.failed.Goals as goal

pub returns : goal.returns
returns g c = search rules
