use Rattle.std.proofs.Common.{◌≡◌, ℕ, refl, length, subst, arith}
use Rattle.std.proofs.lemmas.Option.{slice_get_read}
use Rattle.rbac_index.specs.RuleLists.{AreListed}
use Rattle.rbac_index.specs.Written.{bare_rules}
use Rattle.rbac_index.proofs.RuleListLemmas.{listed_more}
use Rattle.rbac_index.proofs.WrittenLemmas.{rule_read}
use Rattle.rbac_index.proofs.rule_lists.rule_lists_of.Goals as goal

pub loop-no-preserved : goal.loop-no-preserved
loop-no-preserved c =
    let rules = c.args.rules.now in
    let read = rule_read rules c.loop-no.no c.index-rules-no.result (slice_get_read rules (length rules) c.loop-no.no c.index-rules-no.result refl c.loop-no-test.true c.index-rules-no.is) in
    listed_more (bare_rules rules) c.loop-no.no c.loop-no.lists c.list_rule.new.lists c.index-rules-no.result.rule.now read c.loop-no.invariant c.in_ok-list_rule.ensures

pub returns : goal.returns
returns c =
    let all : c.loop-no.no ≡ length c.args.rules.now = omega arith in
    subst (λ (n : ℕ). AreListed (bare_rules c.args.rules.now) n c.loop-no.lists) all c.loop-no.invariant
