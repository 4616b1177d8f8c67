use Rattle.std.proofs.Common.{◌∙◌, ap, length, lit<, subst, sym}
use Rattle.std.specs.Str.Iter.{split_text, split_has_more, split_pattern}
use Rattle.std.proofs.lemmas.Iterator.Consumers.{YieldsList-turn, YieldsList-end}
use Rattle.std.proofs.lemmas.Iterator.Splits.{YieldsList-from_str_split}
use Rattle.rbac_question.specs.Lines.{comma, IsCodeWord}
use Rattle.rbac_question.proofs.line.codes_between.Goals as goal

pub unreachable-requires : goal.unreachable-requires
unreachable-requires c =
    let split = c.split-part-items.ensures in
    let same = c.into_iter-part-iterator.ensures.into_iter_gives in
    let parts = YieldsList-from_str_split comma c.args.text.now (lit< tt)
    (ap split_text same ∙ split.text) (ap split_has_more same ∙ split.has_more) (ap split_pattern same ∙ split.pattern) in
    let turn = YieldsList-turn parts c.loop-part.yielded _ c.loop-part.yielded_by _ _ c.in-Some.part c.in-Some.is c.next.ensures.steps in
    c.in-None-code_of.ensures (subst IsCodeWord (sym turn.1) (c.requires (length c.loop-part.yielded) c.in-Some.part.now turn.0))

pub returns : goal.returns
returns c =
    let split = c.split-part-items.ensures in
    let same = c.into_iter-part-iterator.ensures.into_iter_gives in
    let parts = YieldsList-from_str_split comma c.args.text.now (lit< tt)
    (ap split_text same ∙ split.text) (ap split_has_more same ∙ split.has_more) (ap split_pattern same ∙ split.pattern) in
    let end = YieldsList-end parts c.loop-part.yielded _ c.loop-part.yielded_by _ _ c.in-None.is c.next.ensures.steps in
    (c.loop-part.invariant.0, sym end.0 ∙ c.loop-part.invariant.1)
