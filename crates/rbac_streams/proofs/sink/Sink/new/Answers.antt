use Rattle.std.proofs.Common.{refl}
use Rattle.rbac_streams.proofs.sink.Sink.new.Goals as goal

pub returns : goal.returns
returns g c = refl
