use Rattle.rbac_lint.specs.Gathering.{AreGatheredBy, rules_at}
use Rattle.rbac_lint.proofs.stale_aggregate.gathered_rules.Given as goal

abbrev pub invariant-loop-at : goal.invariant-loop-at
invariant-loop-at l = AreGatheredBy l.policy.held l.fn.place l.at (rules_at l.gathered.items)
