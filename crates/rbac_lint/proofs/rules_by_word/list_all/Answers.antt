use Rattle.std.proofs.Common.{◌≡◌, List, take, length, arith, subst}
use Rattle.std.proofs.Math.Seq.{take-length}
use Rattle.rbac_terms.specs.Text.{Text}
use Rattle.rbac_lint.specs.RulesByWord.{ListsAll}
use Rattle.rbac_lint.proofs.Listed.{lists_none, lists_more}
use Rattle.rbac_lint.proofs.rules_by_word.list_all.Goals as goal

pub loop-word-init : goal.loop-word-init
loop-word-init c = lists_none c.args.lists.now c.args.field c.args.place

pub loop-word-preserved : goal.loop-word-preserved
loop-word-preserved c = lists_more c.args.lists.now c.loop-word.lists c.list_for.new.lists c.args.field c.args.words.now c.loop-word.word-index c.word-item.result c.args.place c.loop-word-test.true c.word-item.is c.loop-word.invariant c.in_ok-list_for.ensures

pub returns : goal.returns
returns c =
    let at : c.loop-word.word-index ≡ length c.args.words.now = omega arith in
    let all : take c.loop-word.word-index c.args.words.now ≡ c.args.words.now = rw at (take-length c.args.words.now) in
    subst (λ (ws : List Text). ListsAll c.args.lists.now c.loop-word.lists c.args.field ws c.args.place) all c.loop-word.invariant
