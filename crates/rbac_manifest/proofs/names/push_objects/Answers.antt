use Rattle.std.proofs.Common.{arith, refl, sym}
use Rattle.std.proofs.lemmas.Grind.{common_steps}
use Rattle.std.proofs.lemmas.List.{append-nil, take_all}
use Rattle.rbac_manifest.proofs.names.push_objects.Goals as goal

pub loop-object-init : goal.loop-object-init
loop-object-init c = sym (append-nil _)

pub loop-object-preserved : goal.loop-object-preserved
loop-object-preserved c = grind (arith, common_steps)

pub returns : goal.returns
returns c = rw (c.loop-object.invariant, take_all c.loop-object.object-index c.args.objects.now c.loop-object-test.false) refl
