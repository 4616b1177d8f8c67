use Rattle.std.proofs.lemmas.List.{take_all}
use Rattle.rbac_terms.specs.Matching.{IsBeforeStars}
use Rattle.rbac_reaches.proofs.WildcardLemmas.{parts_more}
use Rattle.rbac_reaches.proofs.url_prefixes.all_prefixes_of.Goals as goal

pub loop-word-preserved : goal.loop-word-preserved
loop-word-preserved c =
    parts_more IsBeforeStars c.args.words.now c.loop-word.prefixes.items c.push_prefix.new.prefixes.items c.loop-word.word-index c.word-item.result
    c.loop-word-test.true c.word-item.is c.loop-word.invariant c.in_ok-push_prefix.ensures

pub returns : goal.returns
returns c = rw (take_all c.loop-word.word-index c.args.words.now c.loop-word-test.false) at c.loop-word.invariant
