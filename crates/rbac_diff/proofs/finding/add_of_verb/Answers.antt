use Rattle.std.proofs.Common.{arith, Any}
use Rattle.rbac_diff.specs.Finding.{IsOnResource, IsOnTarget}
use Rattle.rbac_diff.proofs.Levels.{copied_none, copied_some, IsOnResources, IsOnUrls, with_urls, without_urls}
use Rattle.rbac_diff.proofs.Searching.{loop_start, loop_next, loop_all, search_same, search_more}
use Rattle.rbac_diff.proofs.finding.add_of_verb.Goals as goal

pub loop-group-init : goal.loop-group-init
loop-group-init c = loop_start c.args.search.now (λ g p. Any (λ w. IsOnResource c.args.search.now c.args.rule.now c.args.verb.now g w p) c.args.rule.now.resources) c.as_slice-group-items.result.now c.args.findings.now

pub loop-group-preserved : goal.loop-group-preserved
loop-group-preserved c =
    loop_next c.args.search.now (λ g p. Any (λ w. IsOnResource c.args.search.now c.args.rule.now c.args.verb.now g w p) c.args.rule.now.resources) c.as_slice-group-items.result.now c.loop-group.group-index c.group-item.result
    c.args.findings.now c.loop-group.findings c.add_of_group.new.findings c.loop-group-test.true c.group-item.is c.loop-group.invariant c.in_ok-add_of_group.ensures

pub returns-in_ok-add_urls : goal.returns-in_ok-add_urls
returns-in_ok-add_urls c =
    let s = c.args.search.now in
    let all = rw c.as_slice-group-items.ensures at
    (loop_all s (λ g p. Any (λ w. IsOnResource s c.args.rule.now c.args.verb.now g w p) c.args.rule.now.resources) c.as_slice-group-items.result.now c.loop-group.group-index
    c.args.findings.now c.loop-group.findings (omega arith) c.loop-group.invariant) in
    search_more s (IsOnResources s c.args.rule.now c.args.verb.now) (IsOnUrls s c.args.rule.now c.args.verb.now) (IsOnTarget s c.args.rule.now c.args.verb.now) c.args.findings.now c.loop-group.findings c.add_urls.new.findings
    (with_urls s c.args.rule.now c.args.verb.now (copied_none s.namespace c.if-is_none.ensures)) all c.in_ok-add_urls.ensures

pub returns-else-is_none : goal.returns-else-is_none
returns-else-is_none c =
    let s = c.args.search.now in
    let all = rw c.as_slice-group-items.ensures at
    (loop_all s (λ g p. Any (λ w. IsOnResource s c.args.rule.now c.args.verb.now g w p) c.args.rule.now.resources) c.as_slice-group-items.result.now c.loop-group.group-index
    c.args.findings.now c.loop-group.findings (omega arith) c.loop-group.invariant) in
    search_same s (IsOnResources s c.args.rule.now c.args.verb.now) (IsOnTarget s c.args.rule.now c.args.verb.now) c.args.findings.now c.loop-group.findings
    (without_urls s c.args.rule.now c.args.verb.now (copied_some s.namespace c.if-is_none.ensures)) all
