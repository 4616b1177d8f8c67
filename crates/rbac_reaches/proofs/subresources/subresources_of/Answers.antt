use Rattle.std.proofs.lemmas.List.{take_all}
use Rattle.rbac_reaches.specs.Wildcards.{IsForEvery}
use Rattle.rbac_reaches.proofs.WildcardLemmas.{parts_more, subresources_from}
use Rattle.rbac_reaches.proofs.subresources.subresources_of.Goals as goal

pub loop-word-preserved : goal.loop-word-preserved
loop-word-preserved c =
    parts_more IsForEvery c.args.words.now c.loop-word.subresources.items c.push_subresource.new.subresources.items c.loop-word.word-index c.word-item.result
    c.loop-word-test.true c.word-item.is c.loop-word.invariant c.in_ok-push_subresource.ensures

pub returns : goal.returns
returns c =
    let words = c.args.words.now in
    let all = c.loop-word.subresources.items in
    let parts = rw (take_all c.loop-word.word-index words c.loop-word-test.false) at c.loop-word.invariant in
    subresources_from words all c.sort_unstable.new.self.items parts c.sort_unstable.ensures.permutation c.sort_unstable.ensures.sorted
