use Rattle.std.proofs.Common.{refl}
use Rattle.rbac_streams.proofs.source.Source.new.Goals as goal

pub returns : goal.returns
returns g c = refl
