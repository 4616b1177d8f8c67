use Rattle.std.proofs.Common.{◌≡◌, ℕ, length, subst, arith}
use Rattle.rbac_reaches.specs.Reaches.{AreReachesBelow}
use Rattle.rbac_reaches.proofs.SharedLemmas.{reaches_none}
use Rattle.rbac_reaches.proofs.reach.reaches_of.Goals as goal

pub loop-no-init : goal.loop-no-init
loop-no-init c = rw c.new-reaches.ensures.items (reaches_none c.args.index.now c.args.universe.now)

pub push_next-requires-clause-ends : goal.push_next-requires-clause-ends
push_next-requires-clause-ends c = rw c.as_slice.ensures.value c.in_ok-ends.ensures

pub loop-no-preserved : goal.loop-no-preserved
loop-no-preserved c = c.in_ok-push_next.ensures

pub returns : goal.returns
returns c =
    let all : c.loop-no.no ≡ length c.args.index.now.grants = omega arith in
    subst (λ (n : ℕ). AreReachesBelow c.args.index.now c.args.universe.now n c.loop-no.reaches.items) all c.loop-no.invariant
