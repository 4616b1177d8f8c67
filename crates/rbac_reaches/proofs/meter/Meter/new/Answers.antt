use Rattle.std.proofs.Common.{refl}
use Rattle.rbac_reaches.proofs.meter.Meter.new.Goals as goal

pub returns : goal.returns
returns c = refl
