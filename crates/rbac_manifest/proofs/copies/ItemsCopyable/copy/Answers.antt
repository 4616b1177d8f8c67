use Rattle.std.proofs.Common.{rules, arith}
use Rattle.std.proofs.lemmas.Grind.{common_steps}
use Rattle.rbac_manifest.proofs.copies.ItemsCopyable.copy.Goals as goal

pub loop-item-init : goal.loop-item-init
loop-item-init g c = search rules

pub loop-item-preserved : goal.loop-item-preserved
loop-item-preserved g c = grind (arith, common_steps)

pub returns : goal.returns
returns g c = grind (arith, common_steps)
