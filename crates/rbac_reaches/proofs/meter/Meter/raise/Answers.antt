use Rattle.std.proofs.Common.{rules}
use Rattle.rbac_reaches.proofs.meter.Meter.raise.Goals as goal

pub returns : goal.returns
returns c = search rules
