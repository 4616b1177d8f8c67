use Rattle.rbac_lint.proofs.Least.{NoneBelow}
use Rattle.rbac_lint.proofs.redundant_rule.first_of_all.Given as goal

abbrev pub invariant-loop-other : goal.invariant-loop-other
invariant-loop-other l = NoneBelow l.rules l.place l.rule l.other
