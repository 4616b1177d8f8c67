use Rattle.std.proofs.Common.{◌↔◌, ◌<◌, List, ℕ, Contains, arith, get_or, subst, take}
use Rattle.std.proofs.lemmas.List.{take_all, take_more}
use Rattle.rbac_ways.proofs.Numbering.{below_with, below_without}
use Rattle.rbac_ways.proofs.joining.numbers_below.Goals as goal
use Rattle.rbac_ways.proofs.joining.numbers_below.Goals.{then-number-bound+in_ok-push, else-number-bound}

pub loop-number-preserved : goal.loop-number-preserved
loop-number-preserved c =
    let numbers = c.args.numbers.now in
    let i = c.loop-number.number-index in
    let number = get_or numbers i 0 in
    let below = c.loop-number.below.items in
    rw (take_more numbers i 0 c.loop-number-test.true) (elim c.if-number-bound.branch [
      | then-number-bound+in_ok-push w ↦ rw (w.below-is, w.in_ok-push.ensures.items) (below_with (take i numbers) below c.args.bound number c.loop-number.invariant w.if-number-bound.true)
      | else-number-bound w ↦ rw w.below-is (below_without (take i numbers) below c.args.bound number c.loop-number.invariant w.if-number-bound.false)
    ])

pub returns : goal.returns
returns c =
    subst (λ (numbers : List ℕ). (n : ℕ) → Contains c.loop-number.below.items n ↔ (Contains numbers n × (n < c.args.bound)))
    (take_all c.loop-number.number-index c.args.numbers.now (omega (arith, c.loop-number-test.false))) c.loop-number.invariant
