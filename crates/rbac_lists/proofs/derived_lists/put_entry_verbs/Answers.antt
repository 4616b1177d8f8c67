use Rattle.std.proofs.Common.{arith}
use Rattle.std.proofs.lemmas.Grind.{common_steps, flat_map-append}
use Rattle.rbac_lists.proofs.derived_lists.put_entry_verbs.Goals as goal

pub loop-entry-preserved : goal.loop-entry-preserved
loop-entry-preserved c = grind (arith, common_steps, flat_map-append)
