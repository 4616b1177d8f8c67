use Rattle.std.proofs.Common.{rules}
use Rattle.rbac_manifest.proofs.loaded.Loaded.replaced.Goals as goal

pub returns-clause-replaced : goal.returns-clause-replaced
returns-clause-replaced c = search rules

pub returns-clause-ordered : goal.returns-clause-ordered
returns-clause-ordered c = search rules
