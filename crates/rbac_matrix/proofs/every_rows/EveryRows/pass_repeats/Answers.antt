use Rattle.std.proofs.Common.{◌∙◌, arith, refl}
use Rattle.rbac_matrix.specs.EveryLeft.{AreEveryLeft}
use Rattle.rbac_matrix.proofs.OnceLemmas.{goes_none, goes_then, passes_repeats, some_none, some_then}
use Rattle.rbac_matrix.proofs.every_rows.EveryRows.pass_repeats.Goals as goal

pub loop-init : goal.loop-init
loop-init c = record {
  going = c.requires;
  some = some_none (AreEveryLeft c.args.self.now);
  few = omega arith;
  returned = refl;
  same = goes_none c.args.self.now.rows;
}

pub loop-preserved : goal.loop-preserved
loop-preserved c = record {
  going = c.pass_repeat.ensures.going;
  some = some_then (AreEveryLeft c.args.self.now) (AreEveryLeft c.loop.self) (AreEveryLeft c.pass_repeat.new.self) c.loop.invariant.some c.pass_repeat.ensures.some;
  few = omega (arith, c.loop.invariant.few, c.pass_repeat.ensures.few);
  returned = c.pass_repeat.ensures.returned ∙ c.loop.invariant.returned;
  same = goes_then c.args.self.now.rows c.loop.self.rows c.pass_repeat.new.self.rows c.loop.invariant.same c.pass_repeat.ensures.same;
}

pub returns-clause-passes : goal.returns-clause-passes
returns-clause-passes c =
    let some = some_then (AreEveryLeft c.args.self.now) (AreEveryLeft c.loop.self) (AreEveryLeft c.pass_repeat.new.self) c.loop.invariant.some c.pass_repeat.ensures.some in
    passes_repeats (AreEveryLeft c.args.self.now) (AreEveryLeft c.pass_repeat.new.self) some (c.pass_repeat.ensures.first c.loop-test.false)
