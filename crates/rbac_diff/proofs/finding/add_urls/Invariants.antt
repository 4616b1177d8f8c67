use Rattle.std.proofs.Common.{Any, take}
use Rattle.rbac_diff.specs.Finding.{IsOnUrl, SearchFinds}
use Rattle.rbac_diff.proofs.finding.add_urls.Given as goal

abbrev pub invariant-loop-url : goal.invariant-loop-url
invariant-loop-url l = SearchFinds l.search (λ p. Any (λ w. IsOnUrl l.verb w p) (take l.url-index l.url-items)) l.initial.findings l.findings
