use Rattle.rbac_universe.specs.Uniting.{AreUnitedBy}
use Rattle.rbac_universe.proofs.unions.united.Given as goal

abbrev pub invariant-loop-item : goal.invariant-loop-item
invariant-loop-item g l = AreUnitedBy g.T.Unites.name g.T.Unites.has l.yielded l.united.items
