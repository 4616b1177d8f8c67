use Rattle.std.proofs.Common.{[], Any, arith}
use Rattle.rbac_paths.specs.SharedWords.{StepTakesWord}
use Rattle.rbac_paths.proofs.WordsAdded.{adds_each, adds_more, only_added}
use Rattle.rbac_paths.proofs.words.taken_words.Goals as goal

pub loop-held-preserved : goal.loop-held-preserved
loop-held-preserved c =
    adds_more (λ h w. Any (StepTakesWord h.home h.rule w) c.args.steps.now) c.args.holdings.now c.loop-held.held-index c.held-item.result
    [] c.loop-held.words c.add_of_holding.new.words c.loop-held-test.true c.held-item.is c.loop-held.invariant c.in_ok-add_of_holding.ensures

pub returns : goal.returns
returns c =
    only_added (λ w. Any (λ h. Any (StepTakesWord h.home h.rule w) c.args.steps.now) c.args.holdings.now) c.loop-held.words
    (adds_each (λ h w. Any (StepTakesWord h.home h.rule w) c.args.steps.now) c.args.holdings.now c.loop-held.held-index [] c.loop-held.words
    (let end = c.loop-held-test.false in omega (arith, end)) c.loop-held.invariant)
