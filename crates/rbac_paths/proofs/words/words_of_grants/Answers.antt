use Rattle.std.proofs.Common.{[], Any, arith, get_or}
use Rattle.std.proofs.lemmas.List.{get_or_default}
use Rattle.rbac_paths.specs.SharedWords.{GrantTakesWord}
use Rattle.rbac_paths.proofs.WordsAdded.{adds_each, adds_first, adds_more, only_added}
use Rattle.rbac_paths.proofs.words.words_of_grants.Goals as goal

pub loop-no-init : goal.loop-no-init
loop-no-init c steps have = rw c.new-words.ensures (adds_first (λ n w. GrantTakesWord c.args.policy.now steps w n) [])

pub loop-no-preserved : goal.loop-no-preserved
loop-no-preserved c steps have =
    let items = c.args.numbers.now in
    let i = c.loop-no.no-index in
    let n = get_or items i 0 in
    adds_more (λ n w. GrantTakesWord c.args.policy.now steps w n) items i n
    [] c.loop-no.words c.add_of_grant.new.words c.loop-no-test.true (get_or_default items i 0 n c.loop-no-test.true) (c.loop-no.invariant steps have) (c.in_ok-add_of_grant.ensures steps have)

pub returns : goal.returns
returns c steps have =
    only_added (λ w. Any (λ n. GrantTakesWord c.args.policy.now steps w n) c.args.numbers.now) c.loop-no.words
    (adds_each (λ n w. GrantTakesWord c.args.policy.now steps w n) c.args.numbers.now c.loop-no.no-index [] c.loop-no.words
    (let end = c.loop-no-test.false in omega (arith, end)) (c.loop-no.invariant steps have))
