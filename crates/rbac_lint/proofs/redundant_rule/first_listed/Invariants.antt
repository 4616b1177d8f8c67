use Rattle.rbac_lint.proofs.Looked.{NoneFirst}
use Rattle.rbac_lint.proofs.redundant_rule.first_listed.Given as goal

abbrev pub invariant-loop-other : goal.invariant-loop-other
invariant-loop-other l = NoneFirst l.rules l.place l.listed l.other-index
