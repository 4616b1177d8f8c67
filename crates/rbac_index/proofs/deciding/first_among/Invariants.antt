use Rattle.rbac_index.specs.Deciding.{NoneAmong}
use Rattle.rbac_index.proofs.deciding.first_among.Given as goal

abbrev pub invariant-loop-place : goal.invariant-loop-place
invariant-loop-place l = NoneAmong l.policy l.principal l.verb l.target l.from l.place
