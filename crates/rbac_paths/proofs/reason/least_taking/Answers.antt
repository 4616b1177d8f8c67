use Rattle.std.proofs.Common.{List, arith, subst, take, ℕ}
use Rattle.std.proofs.lemmas.List.{take_all, take_more}
use Rattle.rbac_paths.specs.Deciding.{IsLeastTaking}
use Rattle.rbac_paths.proofs.reason.least_taking.Goals as goal

pub loop-no-preserved : goal.loop-no-preserved
loop-no-preserved c =
    let items = c.args.numbers.now in
    let i = c.loop-no.no-index in
    rw (take_more items i 0 c.loop-no-test.true) (λ step y asked. c.lesser_taking-least.ensures step y (take i items) asked (c.loop-no.invariant step y asked))

pub returns : goal.returns
returns c step y asked =
    let items = c.args.numbers.now in
    subst (λ (ns : List ℕ). IsLeastTaking c.args.policy.now step y ns c.loop-no.least) (take_all c.loop-no.no-index items (let test = c.loop-no-test.false in omega (arith, test))) (c.loop-no.invariant step y asked)
