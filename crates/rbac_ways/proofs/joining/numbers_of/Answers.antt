use Rattle.std.proofs.Common.{◌≡◌, ◌↔◌, ◌∙◌, ◌+◌, ◌++◌, ◌∷◌, [], List, ℕ, Contains, ap, arith, subst, sym, take}
use Rattle.std.proofs.lemmas.List.{take_all, take_more}
use Rattle.rbac_terms.specs.Text.{Text}
use Rattle.rbac_ways.specs.Joining.{IsNumberOf}
use Rattle.rbac_ways.proofs.Numbering.{more_with, more_without}
use Rattle.rbac_ways.proofs.joining.numbers_of.Goals as goal
use Rattle.rbac_ways.proofs.joining.numbers_of.Goals.{in-Some+in_ok-push, in_default}

pub loop-word-preserved : goal.loop-word-preserved
loop-word-preserved c =
    let words = c.args.words.now in
    let listed = c.as_slice-word-items.result.now in
    let i = c.loop-word.word-index in
    let w = c.word-item.result in
    let more : take (i + 1) listed ≡ take i listed ++ w ∷ [] = take_more listed i w c.loop-word-test.true ∙ ap (λ (t : Text). take i listed ++ t ∷ []) (sym c.word-item.is) in
    rw more (elim c.match-number_of.branch [
      | in-Some+in_ok-push p ↦ rw (p.numbers-is, p.in_ok-push.ensures.items) (more_with words (take i listed) w p.in-Some.number c.loop-word.numbers.items c.loop-word.invariant p.in-Some.ensures)
      | in_default d ↦ rw d.numbers-is (more_without words (take i listed) w c.loop-word.numbers.items c.loop-word.invariant d.in_default.ensures)
    ])

pub returns : goal.returns
returns c =
    subst (λ (xs : List Text). (number : ℕ) → Contains c.loop-word.numbers.items number ↔ IsNumberOf c.args.words.now xs number)
    (take_all c.loop-word.word-index c.as_slice-word-items.result.now (omega (arith, c.loop-word-test.false)) ∙ c.as_slice-word-items.ensures) c.loop-word.invariant
