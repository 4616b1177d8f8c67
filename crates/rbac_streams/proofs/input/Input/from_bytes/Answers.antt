use Rattle.std.proofs.Common.{refl}
use Rattle.rbac_streams.proofs.input.Input.from_bytes.Goals as goal

pub returns : goal.returns
returns c = refl
