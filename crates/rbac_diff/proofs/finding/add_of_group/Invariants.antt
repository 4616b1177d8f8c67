use Rattle.std.proofs.Common.{Any, take}
use Rattle.rbac_diff.specs.Finding.{IsOnResource, SearchFinds}
use Rattle.rbac_diff.proofs.finding.add_of_group.Given as goal

abbrev pub invariant-loop-resource : goal.invariant-loop-resource
invariant-loop-resource l = SearchFinds l.search (λ p. Any (λ w. IsOnResource l.search l.rule l.verb l.group w p) (take l.resource-index l.resource-items)) l.initial.findings l.findings
