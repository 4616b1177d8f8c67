use Rattle.std.proofs.Common.{◌↔◌, ◌∙◌, [], List, Contains, arith, subst}
use Rattle.std.proofs.lemmas.List.{get_or_read, take_all}
use Rattle.std.proofs.lemmas.List.Elements.{same_from_all_zip}
use Rattle.rbac_terms.specs.Text.{Text}
use Rattle.rbac_ways.proofs.Numbering.{IsInOne, words_are, words_more}
use Rattle.rbac_ways.proofs.joining.words_of.Goals as goal

pub loop-listed-preserved : goal.loop-listed-preserved
loop-listed-preserved c =
    let i = c.loop-listed.listed-index in
    let added = c.in_ok-extend_with_clones.ensures.items in
    words_more c.args.lists.now i c.loop-listed.words.items c.extend_with_clones.new.self.items added.0 c.loop-listed-test.true c.loop-listed.invariant added.1
    (same_from_all_zip _ c.as_slice.result.now added.0 added.2 (λ x y same. same) ∙ c.as_slice.ensures ∙ get_or_read c.args.lists.now i c.listed-item.result c.loop-listed-test.true c.listed-item.is [])

pub returns : goal.returns
returns c =
    let lists = c.args.lists.now in
    words_are lists c.loop-listed.words.items c.sort_unstable.new.self.items c.dedup.new.self.items
    (subst (λ (all : List (List Text)). (w : Text) → Contains c.loop-listed.words.items w ↔ IsInOne all w) (take_all c.loop-listed.listed-index lists (omega (arith, c.loop-listed-test.false))) c.loop-listed.invariant)
    c.sort_unstable.ensures.permutation c.sort_unstable.ensures.sorted c.dedup.ensures.filtered
