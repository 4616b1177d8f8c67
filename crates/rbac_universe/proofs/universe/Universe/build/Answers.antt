use Rattle.rbac_universe.proofs.universe.Universe.build.Goals as goal

pub returns-clause-bad : goal.returns-clause-bad
returns-clause-bad c = λ bad. absurd (bad (c.are_proper.ensures.0 c.if-not-are_proper.false))
