use Rattle.std.proofs.Common.{arith}
use Rattle.rbac_matrix.proofs.every_start.grants_before.Goals as goal

pub returns-then-place-eq0 : goal.returns-then-place-eq0
returns-then-place-eq0 c = λ n at of. (λ lt. absurd (omega arith), λ lt. absurd (omega (arith, c.if-place-eq0.true)))

pub returns : goal.returns
returns c = λ n at of.
    let e = (rw c.policy.ensures at c.grants_of-end.ensures.upto) n at of in
    (λ lt. let le = e.0 lt in omega (arith, c.if-place-eq0.false), λ lt. e.1 (omega (arith, c.if-place-eq0.false)))
