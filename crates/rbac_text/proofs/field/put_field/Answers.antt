use Rattle.std.proofs.Common.{rules}
use Rattle.rbac_text.proofs.field.put_field.Goals as goal

pub returns-in-45 : goal.returns-in-45
returns-in-45 c = search rules
