use Rattle.std.proofs.Common.{arith}
use Rattle.std.proofs.lemmas.Grind.{common_steps}
use Rattle.std.proofs.lemmas.List.Elements.{filter_map-append}
use Rattle.rbac_terms.proofs.granting.put_principals.Goals as goal

pub loop-subject-preserved : goal.loop-subject-preserved
loop-subject-preserved c = grind (arith, common_steps, filter_map-append)
