use Rattle.std.proofs.Common.{arith}
use Rattle.std.proofs.lemmas.Grind.{common_steps}
use Rattle.std.proofs.lemmas.List.Elements.{filter_map-append}
use Rattle.rbac_groups.proofs.giving.add_groups.Goals as goal

pub loop-membership-preserved : goal.loop-membership-preserved
loop-membership-preserved c = grind (arith, common_steps, filter_map-append)
