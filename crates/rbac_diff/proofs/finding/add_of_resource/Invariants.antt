use Rattle.std.proofs.Common.{Any, take}
use Rattle.rbac_diff.specs.Finding.{SearchFinds}
use Rattle.rbac_diff.proofs.Levels.{HasName}
use Rattle.rbac_diff.proofs.finding.add_of_resource.Given as goal

abbrev pub invariant-loop-name : goal.invariant-loop-name
invariant-loop-name l = SearchFinds l.search (λ p. Any (λ n. HasName l.search l.rule l.verb l.group l.resource n p) (take l.name-index l.name-items)) l.initial.findings l.findings
