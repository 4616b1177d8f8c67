use Rattle.std.proofs.Common.{[], Any, List, arith, subst, sym}
use Rattle.rbac_paths.specs.Takeovers.{AreTakeovers, HasTakeover}
use Rattle.rbac_paths.specs.declared.takeover.Takeover.{Takeover}
use Rattle.rbac_paths.proofs.WordsAdded.{adds_each, adds_more, only_added}
use Rattle.rbac_paths.proofs.takeover.takeovers_of.Goals as goal

pub loop-step-preserved : goal.loop-step-preserved
loop-step-preserved c =
    adds_more (λ step t. HasTakeover c.args.rule.now t step) c.args.steps.now c.loop-step.step-index c.step-item.result
    [] c.loop-step.all.items c.add_of_step.new.all.items c.loop-step-test.true c.step-item.is c.loop-step.invariant c.in_ok-add_of_step.ensures

pub returns : goal.returns
returns c =
    let rule = c.args.rule.now in
    let steps = c.args.steps.now in
    let all = c.loop-step.all.items in
    subst (λ (ts : List Takeover). AreTakeovers steps rule ts) (sym c.from_vec.ensures)
    (only_added (λ t. Any (HasTakeover rule t) steps) all
    (adds_each (λ step t. HasTakeover rule t step) steps c.loop-step.step-index [] all (let end = c.loop-step-test.false in omega (arith, end)) c.loop-step.invariant))
