use Rattle.std.proofs.Common.{ℕ, ◌≡◌, ◌+◌, ◌*◌, ◌/◌, length, min, arith, subst}
use Rattle.rbac_model.specs.Graphs.{HasPlace}
use Rattle.rbac_model.specs.Lists.{IsUpTo}
use Rattle.rbac_model.specs.Places.{IsPlainAt}
use Rattle.rbac_model.proofs.UpTo.{none_yet, none_between}
use Rattle.rbac_model.proofs.aggregation.plain_in.Goals as goal
use Rattle.rbac_model.proofs.aggregation.plain_in.Goals.{then-has_word+in_ok-put_plain, else-has_word}

pub loop-at-init : goal.loop-at-init
loop-at-init c =
    let P : ℕ → Type 0 = λ k. HasPlace c.args.places.now k × IsPlainAt c.args.roles.now k in
    let none : 0 ≡ min 0 (length c.args.roles.now) = omega arith in
    subst (λ (i : ℕ). IsUpTo P c.new-row.result.items i) none (rw c.new-row.ensures.items (none_yet P))

pub put_plain-requires-clause-before : goal.put_plain-requires-clause-before
put_plain-requires-clause-before c =
    let P : ℕ → Type 0 = λ k. HasPlace c.args.places.now k × IsPlainAt c.args.roles.now k in
    let below : min (c.loop-at.at * 64) (length c.args.roles.now) ≡ c.loop-at.at * 64 = omega arith in
    subst (λ (i : ℕ). IsUpTo P c.loop-at.row.items i) below c.loop-at.invariant

pub loop-at-preserved : goal.loop-at-preserved
loop-at-preserved c =
    let P : ℕ → Type 0 = λ k. HasPlace c.args.places.now k × IsPlainAt c.args.roles.now k in
    let n = length c.args.roles.now in
    let at = c.loop-at.at in
    let next : min (at * 64 + 64) n ≡ min ((at + 1) * 64) n = omega arith in
    elim c.if-has_word.branch [
      | then-has_word+in_ok-put_plain w ↦ rw w.row-is (subst (λ (i : ℕ). IsUpTo P w.put_plain.new.row.items i) next w.in_ok-put_plain.ensures)
      | else-has_word w ↦ rw w.row-is (none_between P c.loop-at.row.items (min (at * 64) n) (min ((at + 1) * 64) n) (omega arith)
          (λ k ge lt p. let here : k / 64 ≡ at = omega arith in c.has_word.ensures w.if-has_word.false k here p.0) c.loop-at.invariant)
    ]

pub returns : goal.returns
returns c =
    let P : ℕ → Type 0 = λ k. HasPlace c.args.places.now k × IsPlainAt c.args.roles.now k in
    let all : min (c.loop-at.at * 64) (length c.args.roles.now) ≡ length c.args.roles.now = omega arith in
    subst (λ (i : ℕ). IsUpTo P c.loop-at.row.items i) all c.loop-at.invariant
