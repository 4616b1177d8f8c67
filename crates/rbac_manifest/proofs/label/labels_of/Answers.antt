use Rattle.std.proofs.Common.{append_assoc, arith, refl}
use Rattle.std.proofs.lemmas.List.{append-nil}
use Rattle.rbac_manifest.proofs.label.labels_of.Goals as goal

pub loop-key-preserved : goal.loop-key-preserved
loop-key-preserved c = grind (arith, append_assoc)

pub returns : goal.returns
returns c = rw (c.from_vec.ensures, ← c.loop-key.invariant, c.in-None.ensures.steps.0, append-nil c.loop-key.labels.items) refl
