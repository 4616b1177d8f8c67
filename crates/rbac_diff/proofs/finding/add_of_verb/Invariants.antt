use Rattle.std.proofs.Common.{Any, take}
use Rattle.rbac_diff.specs.Finding.{IsOnResource, SearchFinds}
use Rattle.rbac_diff.proofs.finding.add_of_verb.Given as goal

abbrev pub invariant-loop-group : goal.invariant-loop-group
invariant-loop-group l = SearchFinds l.search (λ p. Any (λ g. Any (λ w. IsOnResource l.search l.rule l.verb g w p) l.rule.resources) (take l.group-index l.group-items)) l.initial.findings l.findings
