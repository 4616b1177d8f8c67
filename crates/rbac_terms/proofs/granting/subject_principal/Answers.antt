use Rattle.std.proofs.Common.{rules}
use Rattle.rbac_terms.proofs.granting.subject_principal.Goals as goal

pub returns-in-Group : goal.returns-in-Group
returns-in-Group c = search rules
