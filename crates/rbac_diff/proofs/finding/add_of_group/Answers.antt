use Rattle.std.proofs.Common.{arith}
use Rattle.rbac_diff.specs.Finding.{IsOnResource}
use Rattle.rbac_diff.proofs.Searching.{loop_start, loop_next, loop_all}
use Rattle.rbac_diff.proofs.finding.add_of_group.Goals as goal

pub loop-resource-init : goal.loop-resource-init
loop-resource-init c = loop_start c.args.search.now (λ w p. IsOnResource c.args.search.now c.args.rule.now c.args.verb.now c.args.group.now w p) c.as_slice-resource-items.result.now c.args.findings.now

pub loop-resource-preserved : goal.loop-resource-preserved
loop-resource-preserved c =
    loop_next c.args.search.now (λ w p. IsOnResource c.args.search.now c.args.rule.now c.args.verb.now c.args.group.now w p) c.as_slice-resource-items.result.now c.loop-resource.resource-index c.resource-item.result
    c.args.findings.now c.loop-resource.findings c.add_of_resource.new.findings c.loop-resource-test.true c.resource-item.is c.loop-resource.invariant c.in_ok-add_of_resource.ensures

pub returns : goal.returns
returns c =
    rw c.as_slice-resource-items.ensures at
    (loop_all c.args.search.now (λ w p. IsOnResource c.args.search.now c.args.rule.now c.args.verb.now c.args.group.now w p) c.as_slice-resource-items.result.now c.loop-resource.resource-index
    c.args.findings.now c.loop-resource.findings (omega arith) c.loop-resource.invariant)
