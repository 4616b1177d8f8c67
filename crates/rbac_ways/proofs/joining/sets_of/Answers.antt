use Rattle.std.proofs.Common.{◌↔◌, [], List, ℕ, Contains, arith, get_or, length, subst, sym}
use Rattle.std.proofs.lemmas.List.{get_or_read}
use Rattle.rbac_terms.specs.Text.{Text}
use Rattle.rbac_ways.specs.Joining.{IsNumberOf}
use Rattle.rbac_ways.proofs.Turning.{listed_all, listed_more, listed_within}
use Rattle.rbac_ways.proofs.joining.sets_of.Goals as goal

pub loop-node-preserved : goal.loop-node-preserved
loop-node-preserved c =
    let words = c.args.words.now in
    let had_by = c.args.had_by.now in
    let node = c.loop-node.node in
    listed_more (λ j number. IsNumberOf words (get_or had_by j []) number) (length words) node c.as_slice.result.now c.loop-node.sets.items c.add_to_each.new.lists.items
    (subst (λ (listed : List Text). (number : ℕ) → Contains c.as_slice.result.now number ↔ IsNumberOf words listed number) (get_or_read had_by node c.index-had_by-node.result c.loop-node-test.true c.index-had_by-node.is [])
    (subst (λ (numbers : List ℕ). (number : ℕ) → Contains numbers number ↔ IsNumberOf words c.index-had_by-node.result number) (sym c.as_slice.ensures.value) c.in_ok-numbers.ensures))
    c.loop-node.invariant c.in_ok-add_to_each.ensures

pub returns-clause-each : goal.returns-clause-each
returns-clause-each c =
    let words = c.args.words.now in
    let had_by = c.args.had_by.now in
    listed_all (λ j number. IsNumberOf words (get_or had_by j []) number) (length words) c.loop-node.node c.loop-node.sets.items
    (λ j number has. let there = listed_within had_by j has.0 has.1 in omega (arith, there, c.loop-node-test.false)) c.loop-node.invariant
