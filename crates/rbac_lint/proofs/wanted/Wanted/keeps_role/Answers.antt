use Rattle.std.proofs.Common.{sym}
use Rattle.rbac_model.specs.Sources.{source_of}
use Rattle.rbac_lint.specs.Roles.{source_object}
use Rattle.rbac_lint.proofs.wanted.Wanted.keeps_role.Goals as goal

pub returns-in-Role : goal.returns-in-Role
returns-in-Role c = c.keeps.ensures (source_object (source_of c.args.role)) (rw c.in-Role.is (sym c.as_bytes.ensures.value)) (rw c.in-Role.is)
