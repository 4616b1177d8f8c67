use Rattle.std.proofs.Common.{◌+◌, ◌-◌, ◌/◌, ◌<◌, ℕ, length, arith}
use Rattle.rbac_matrix.proofs.SeekLemmas.{Halved-more, after_middle, before_middle}
use Rattle.rbac_matrix.proofs.seat.seek.Goals as goal

pub loop-low-preserved-then-place-from : goal.loop-low-preserved-then-place-from
loop-low-preserved-then-place-from c =
    let middle : ℕ = c.loop-low.low + (c.loop-low.high - c.loop-low.low) / 2 in
    let within : middle < length c.args.reach.now = omega (arith, c.loop-low.invariant.within) in
    record {
      order = omega arith;
      within = c.loop-low.invariant.within;
      ascending = c.loop-low.invariant.ascending;
      before = before_middle c.args.reach.now c.args.from middle c.loop-low.invariant.ascending within (rw (← c.place.ensures.place) c.if-place-from.true);
      after = c.loop-low.invariant.after;
      halved = Halved-more (c.loop-low.high - c.loop-low.low) _ c.args.meter.now c.loop-low.meter _ (omega arith) (omega arith) c.loop-low.invariant.halved c.place.ensures.read;
    }

pub loop-low-preserved : goal.loop-low-preserved
loop-low-preserved c =
    let middle : ℕ = c.loop-low.low + (c.loop-low.high - c.loop-low.low) / 2 in
    let within : middle < length c.args.reach.now = omega (arith, c.loop-low.invariant.within) in
    record {
      order = omega arith;
      within = omega (arith, c.loop-low.invariant.within);
      ascending = c.loop-low.invariant.ascending;
      before = c.loop-low.invariant.before;
      after = after_middle c.args.reach.now c.args.from middle c.loop-low.invariant.ascending within (rw (← c.place.ensures.place) c.if-place-from.false);
      halved = Halved-more (c.loop-low.high - c.loop-low.low) _ c.args.meter.now c.loop-low.meter _ (omega arith) (omega arith) c.loop-low.invariant.halved c.place.ensures.read;
    }
