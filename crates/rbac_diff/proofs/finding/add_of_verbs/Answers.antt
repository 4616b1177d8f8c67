use Rattle.std.proofs.Common.{arith, Any}
use Rattle.rbac_diff.specs.Finding.{IsOnTarget, IsOfRule}
use Rattle.rbac_diff.proofs.Levels.{each_verb}
use Rattle.rbac_diff.proofs.Searching.{loop_start, loop_next, loop_all, search_same}
use Rattle.rbac_diff.proofs.finding.add_of_verbs.Goals as goal

pub loop-verb-init : goal.loop-verb-init
loop-verb-init c = loop_start c.args.search.now (λ v p. IsOnTarget c.args.search.now c.args.rule.now v p) c.as_slice-verb-items.result.now c.args.findings.now

pub loop-verb-preserved : goal.loop-verb-preserved
loop-verb-preserved c =
    loop_next c.args.search.now (λ v p. IsOnTarget c.args.search.now c.args.rule.now v p) c.as_slice-verb-items.result.now c.loop-verb.verb-index c.verb-item.result
    c.args.findings.now c.loop-verb.findings c.add_of_verb.new.findings c.loop-verb-test.true c.verb-item.is c.loop-verb.invariant c.in_ok-add_of_verb.ensures

pub returns : goal.returns
returns c =
    let s = c.args.search.now in
    let all = rw c.as_slice-verb-items.ensures at
    (loop_all s (λ v p. IsOnTarget s c.args.rule.now v p) c.as_slice-verb-items.result.now c.loop-verb.verb-index c.args.findings.now c.loop-verb.findings (omega arith) c.loop-verb.invariant) in
    search_same s (λ p. Any (λ v. IsOnTarget s c.args.rule.now v p) c.args.rule.now.verbs) (IsOfRule s c.args.rule.now) c.args.findings.now c.loop-verb.findings (each_verb s c.args.rule.now) all
