use Rattle.std.proofs.Common.{◌≡◌, ◌↔◌, [], List, ℕ, Contains, arith, length, subst}
use Rattle.std.proofs.lemmas.List.{get_or_read}
use Rattle.rbac_terms.specs.Text.{Text}
use Rattle.rbac_ways.specs.Joining.{AreLists, HasNumber, IsNumberOf}
use Rattle.rbac_ways.proofs.Numbering.{lists_more}
use Rattle.rbac_ways.proofs.joining.numbers_of_each.Goals as goal

pub loop-listed-preserved : goal.loop-listed-preserved
loop-listed-preserved c =
    let words = c.args.words.now in
    let lists = c.args.lists.now in
    let i = c.loop-listed.listed-index in
    let own = c.in_ok-numbers_of.field-0.items in
    rw (c.in_ok-push.ensures.items, c.from_vec.ensures) (lists_more (HasNumber words lists) i c.loop-listed.numbers.items own
    (subst (λ (listed : List Text). (number : ℕ) → Contains own number ↔ IsNumberOf words listed number) (get_or_read lists i c.listed-item.result c.loop-listed-test.true c.listed-item.is []) c.in_ok-numbers_of.ensures)
    c.loop-listed.invariant)

pub returns : goal.returns
returns c =
    let all : c.loop-listed.listed-index ≡ length c.args.lists.now = let test = c.loop-listed-test.false in let low = c.loop-listed.auto.listed-index-end in omega (arith, test, low) in
    subst (λ (n : ℕ). AreLists (HasNumber c.args.words.now c.args.lists.now) n c.loop-listed.numbers.items) all c.loop-listed.invariant
