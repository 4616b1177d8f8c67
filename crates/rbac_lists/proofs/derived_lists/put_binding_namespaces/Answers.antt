use Rattle.std.proofs.Common.{arith}
use Rattle.std.proofs.lemmas.Grind.{common_steps}
use Rattle.std.proofs.lemmas.List.Elements.{filter_map-append}
use Rattle.rbac_lists.proofs.derived_lists.put_binding_namespaces.Goals as goal

pub loop-binding-preserved : goal.loop-binding-preserved
loop-binding-preserved c = grind (arith, common_steps, filter_map-append)
