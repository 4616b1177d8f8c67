use Rattle.std.proofs.Common.{◌≡◌, arith, refl, true, false, Any}
use Rattle.rbac_terms.proofs.Cases.{on_ok}
use Rattle.rbac_diff.specs.Finding.{IsOnResource}
use Rattle.rbac_diff.proofs.Levels.{HasName, HasAnyName, with_names, without_names}
use Rattle.rbac_diff.proofs.Searching.{loop_start, loop_next, loop_all, search_same}
use Rattle.rbac_diff.proofs.finding.add_of_resource.Goals as goal

pub returns-then-is_empty : goal.returns-then-is_empty
returns-then-is_empty c =
    let s = c.args.search.now in
    on_ok c.add.result (search_same s (HasAnyName s c.args.rule.now c.args.verb.now c.args.group.now c.args.resource.now) (IsOnResource s c.args.rule.now c.args.verb.now c.args.group.now c.args.resource.now)
    c.args.findings.now c.add.new.findings (without_names s c.args.rule.now c.args.verb.now c.args.group.now c.args.resource.now (c.if-is_empty.ensures.0 refl))) c.add.ensures

pub loop-name-init : goal.loop-name-init
loop-name-init c = loop_start c.args.search.now (λ n p. HasName c.args.search.now c.args.rule.now c.args.verb.now c.args.group.now c.args.resource.now n p) c.as_slice-name-items.result.now c.args.findings.now

pub loop-name-preserved : goal.loop-name-preserved
loop-name-preserved c =
    loop_next c.args.search.now (λ n p. HasName c.args.search.now c.args.rule.now c.args.verb.now c.args.group.now c.args.resource.now n p) c.as_slice-name-items.result.now c.loop-name.name-index c.name-item.result
    c.args.findings.now c.loop-name.findings c.add-in-loop-name.new.findings c.loop-name-test.true c.name-item.is c.loop-name.invariant c.in_ok-add.ensures

pub returns : goal.returns
returns c =
    let s = c.args.search.now in
    let all = rw c.as_slice-name-items.ensures at
    (loop_all s (λ n p. HasName s c.args.rule.now c.args.verb.now c.args.group.now c.args.resource.now n p) c.as_slice-name-items.result.now c.loop-name.name-index
    c.args.findings.now c.loop-name.findings (omega arith) c.loop-name.invariant) in
    search_same s (λ p. Any (λ n. HasName s c.args.rule.now c.args.verb.now c.args.group.now c.args.resource.now n p) c.args.rule.now.resource_names)
    (IsOnResource s c.args.rule.now c.args.verb.now c.args.group.now c.args.resource.now) c.args.findings.now c.loop-name.findings
    (with_names s c.args.rule.now c.args.verb.now c.args.group.now c.args.resource.now (λ e. absurd (let both : false ≡ true = c.if-is_empty.ensures.1 e in cc))) all
