use Rattle.std.proofs.Common.{arith, refl, sym}
use Rattle.std.proofs.lemmas.Grind.{common_steps}
use Rattle.std.proofs.lemmas.List.{append-nil, take_all}
use Rattle.rbac_manifest.proofs.replacement.push_namespaces.Goals as goal

pub loop-namespace-init : goal.loop-namespace-init
loop-namespace-init c = sym (append-nil _)

pub loop-namespace-preserved : goal.loop-namespace-preserved
loop-namespace-preserved c = grind (arith, common_steps)

pub returns : goal.returns
returns c = rw (c.loop-namespace.invariant, take_all c.loop-namespace.namespace-index c.args.namespaces.now c.loop-namespace-test.false) refl
