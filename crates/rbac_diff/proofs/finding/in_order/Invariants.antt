use Rattle.std.proofs.Common.{◌≡◌, map, take}
use Rattle.rbac_diff.proofs.finding.in_order.Given as goal

abbrev pub invariant-loop-rule : goal.invariant-loop-rule
invariant-loop-rule l = l.ordered.items ≡ map (λ r. r.now) (take l.rule-index l.rules)
