use Rattle.std.proofs.Common.{length, refl}
use Rattle.std.proofs.lemmas.Option.{slice_get_read}
use Rattle.rbac_lint.proofs.Listed.{listed_more}
use Rattle.rbac_lint.proofs.rules_by_word.lists_of.Goals as goal

pub loop-place-preserved : goal.loop-place-preserved
loop-place-preserved c =
    let rules = c.args.rules.now in
    let r = c.index-rules-place.result in
    listed_more c.args.field rules c.loop-place.place r c.words_in.result.now c.loop-place.lists c.list_all.new.lists
    (slice_get_read rules (length rules) c.loop-place.place r refl c.loop-place-test.true c.index-rules-place.is)
    (c.words_in.ensures c.requires) c.loop-place.invariant c.in_ok-list_all.ensures
