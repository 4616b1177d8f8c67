use Rattle.std.proofs.Common.{Any, take}
use Rattle.rbac_diff.specs.Finding.{IsOnTarget, SearchFinds}
use Rattle.rbac_diff.proofs.finding.add_of_verbs.Given as goal

abbrev pub invariant-loop-verb : goal.invariant-loop-verb
invariant-loop-verb l = SearchFinds l.search (λ p. Any (λ v. IsOnTarget l.search l.rule v p) (take l.verb-index l.verb-items)) l.initial.findings l.findings
