use Rattle.std.proofs.Common.{rules}
use Rattle.rbac_manifest.proofs.loading.Export.lists.Goals as goal

pub returns : goal.returns
returns c = search rules
