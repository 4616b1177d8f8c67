use Rattle.std.proofs.Common.{arith}
use Rattle.std.proofs.lemmas.Grind.{common_steps}
use Rattle.rbac_text.proofs.Fields.{binding_parts}
use Rattle.rbac_text.proofs.row.put_binding.Goals as goal

pub returns : goal.returns
returns c = rw (binding_parts c.args.binding.now.namespace c.args.binding.now.name) (grind (arith, common_steps))
