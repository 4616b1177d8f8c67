use Rattle.std.proofs.Common.{◌≡◌, List, take, length, arith, subst}
use Rattle.std.proofs.Math.Seq.{take-length}
use Rattle.rbac_terms.specs.Text.{Text}
use Rattle.rbac_index.specs.RuleLists.{ListsUnder}
use Rattle.rbac_index.proofs.RuleListLemmas.{lists_under_more}
use Rattle.rbac_index.proofs.rule_lists.list_under_all.Goals as goal

pub loop-word-preserved : goal.loop-word-preserved
loop-word-preserved c = lists_under_more c.args.lists.now c.loop-word.lists c.list_under.new.lists c.args.words.now c.loop-word.word-index c.word-item.result c.args.no c.loop-word-test.true c.word-item.is c.loop-word.invariant c.in_ok-list_under.ensures

pub returns : goal.returns
returns c =
    let at : c.loop-word.word-index ≡ length c.args.words.now = omega arith in
    let all : take c.loop-word.word-index c.args.words.now ≡ c.args.words.now = rw at (take-length c.args.words.now) in
    subst (λ (ws : List Text). ListsUnder c.args.lists.now c.loop-word.lists ws c.args.no) all c.loop-word.invariant
