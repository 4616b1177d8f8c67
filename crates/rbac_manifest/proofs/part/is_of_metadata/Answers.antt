use Rattle.std.proofs.Common.{rules}
use Rattle.rbac_manifest.proofs.part.is_of_metadata.Goals as goal

pub returns : goal.returns
returns c = search rules
