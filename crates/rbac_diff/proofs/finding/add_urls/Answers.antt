use Rattle.std.proofs.Common.{arith}
use Rattle.rbac_diff.specs.Finding.{IsOnUrl}
use Rattle.rbac_diff.proofs.Searching.{loop_start, loop_next, loop_all}
use Rattle.rbac_diff.proofs.finding.add_urls.Goals as goal

pub loop-url-init : goal.loop-url-init
loop-url-init c = loop_start c.args.search.now (λ w p. IsOnUrl c.args.verb.now w p) c.as_slice-url-items.result.now c.args.findings.now

pub loop-url-preserved : goal.loop-url-preserved
loop-url-preserved c =
    loop_next c.args.search.now (λ w p. IsOnUrl c.args.verb.now w p) c.as_slice-url-items.result.now c.loop-url.url-index c.url-item.result c.args.findings.now c.loop-url.findings c.add.new.findings
    c.loop-url-test.true c.url-item.is c.loop-url.invariant c.in_ok-add.ensures

pub returns : goal.returns
returns c =
    rw c.as_slice-url-items.ensures at
    (loop_all c.args.search.now (λ w p. IsOnUrl c.args.verb.now w p) c.as_slice-url-items.result.now c.loop-url.url-index c.args.findings.now c.loop-url.findings (omega arith) c.loop-url.invariant)
