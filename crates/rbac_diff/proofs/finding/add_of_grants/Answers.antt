use Rattle.std.proofs.Common.{◌+◌}
use Rattle.std.specs.Option.{option_copied}
use Rattle.rbac_model.specs.Sources.{grant_of}
use Rattle.rbac_diff.specs.Finding.{FoundChanges, SearchFinds, IsByGrants, IsOfRule}
use Rattle.rbac_diff.proofs.Grants.{IsByNumbers, no_numbers, one_number, all_numbers}
use Rattle.rbac_diff.proofs.Searching.{search_none, search_same, search_more}
use Rattle.rbac_diff.proofs.CoveringRules.{search_covered}
use Rattle.rbac_diff.proofs.finding.add_of_grants.Goals as goal
use Rattle.rbac_diff.proofs.finding.add_of_grants.Goals.{in-Some, in-None+in_ok-add_of_rule-in-None}

pub loop-no-init : goal.loop-no-init
loop-no-init c =
    let s = c.args.search.now in
    search_none s (IsByNumbers c.args.after.now (option_copied s.namespace) c.grants_of-from.result.0 c.grants_of-from.result.0) c.args.findings.now (no_numbers c.args.after.now (option_copied s.namespace) c.grants_of-from.result.0)

pub loop-no-preserved : goal.loop-no-preserved
loop-no-preserved c =
    let s = c.args.search.now in
    let after = c.args.after.now in
    let own = option_copied s.namespace in
    let from = c.grants_of-from.result.0 in
    let n = c.loop-no.no in
    let r = c.grant.result.rule.now in
    let more : (m : FoundChanges) → SearchFinds s (IsOfRule s r) c.loop-no.findings m → SearchFinds s (IsByNumbers after own from (n + 1)) c.args.findings.now m =
    λ m. search_more s (IsByNumbers after own from n) (IsOfRule s r) (IsByNumbers after own from (n + 1)) c.args.findings.now c.loop-no.findings m
    (one_number after own from n (grant_of c.grant.result) c.loop-no.auto.no c.grant.ensures.grant) c.loop-no.invariant in
    elim c.match-branch-2.branch [
      | in-Some w ↦ rw w.findings-is (more c.loop-no.findings (search_covered s r c.loop-no.findings (rw w.in-Some.is at c.in_ok-at.ensures).1))
      | in-None+in_ok-add_of_rule-in-None w ↦ rw w.findings-is (more w.add_of_rule.new.findings w.in_ok-add_of_rule-in-None.ensures)
    ]

pub returns : goal.returns
returns c =
    let s = c.args.search.now in
    let own = option_copied s.namespace in
    search_same s (IsByNumbers c.args.after.now own c.grants_of-from.result.0 c.loop-no.no) (IsByGrants c.args.after.now c.args.place own) c.args.findings.now c.loop-no.findings
    (all_numbers c.args.after.now own c.args.place c.grants_of-from.result.0 c.grants_of-from.result.1 c.loop-no.no c.grants_of-from.ensures.policy c.loop-no-test.false (c.loop-no.auto.no-end c.grants_of-from.ensures.ordered) c.grants_of-from.ensures.between) c.loop-no.invariant
