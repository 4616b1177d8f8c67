use Rattle.std.proofs.Common.{rules}
use Rattle.rbac_streams.proofs.input.Input.as_bytes.Goals as goal

pub returns : goal.returns
returns c = search rules
