use Rattle.std.proofs.Common.{◌≡◌, ◌+◌, ℕ, arith, length, subst}
use Rattle.rbac_ways.specs.Joining.{AreLists, HasSet}
use Rattle.rbac_ways.proofs.Numbering.{no_single, one_single}
use Rattle.rbac_ways.proofs.joining.lists_of.Goals as goal

pub loop-place-init : goal.loop-place-init
loop-place-init c = no_single c.args.words.now c.args.lists.now c.in_ok-all.all.items c.in_ok-all.ensures

pub loop-place-preserved : goal.loop-place-preserved
loop-place-preserved c =
    rw (c.in_ok-push-2.ensures.items, c.in_ok-push.ensures.ok, c.new-single.ensures)
    (one_single c.args.words.now c.args.lists.now c.loop-place.place c.loop-place.all.items c.loop-place.invariant)

pub returns : goal.returns
returns c =
    let all : c.loop-place.place ≡ length c.args.also.now = let test = c.loop-place-test.false in let low = c.loop-place.auto.place-end in omega (arith, test, low) in
    subst (λ (n : ℕ). AreLists (HasSet c.args.words.now c.args.lists.now) (length c.args.lists.now + n) c.loop-place.all.items) all c.loop-place.invariant
