use Rattle.rbac_model.specs.Kept.{AreLastNamed}
use Rattle.rbac_model.proofs.replacement.last_named.Given as goal

abbrev pub invariant-loop-item : goal.invariant-loop-item
invariant-loop-item g l = AreLastNamed g.T.Named.name l.yielded l.kept.items
