use Rattle.std.proofs.Common.{◌∙◌, arith, refl}
use Rattle.rbac_matrix.specs.Enumeration.{AreLeft}
use Rattle.rbac_matrix.proofs.OnceLemmas.{goes_none, goes_then, some_none, some_then}
use Rattle.rbac_matrix.proofs.enumeration.Rows.pass_rest.Goals as goal

pub loop-init : goal.loop-init
loop-init c = record {
  going = c.requires;
  some = some_none (AreLeft c.args.self.now);
  few = omega arith;
  returned = refl;
  same = goes_none c.args.self.now;
}

pub loop-preserved : goal.loop-preserved
loop-preserved c = record {
  going = c.pass_ahead.ensures.going;
  some = some_then (AreLeft c.args.self.now) (AreLeft c.loop.self) (AreLeft c.pass_ahead.new.self) c.loop.invariant.some c.pass_ahead.ensures.some;
  few = omega (arith, c.loop.invariant.few, c.pass_ahead.ensures.few);
  returned = c.pass_ahead.ensures.returned ∙ c.loop.invariant.returned;
  same = goes_then c.args.self.now c.loop.self c.pass_ahead.new.self c.loop.invariant.same c.pass_ahead.ensures.same;
}

pub returns-clause-some : goal.returns-clause-some
returns-clause-some c = some_then (AreLeft c.args.self.now) (AreLeft c.loop.self) (AreLeft c.pass_ahead.new.self) c.loop.invariant.some c.pass_ahead.ensures.some

pub returns-clause-few : goal.returns-clause-few
returns-clause-few c = omega (arith, c.loop.invariant.few, c.pass_ahead.ensures.few)

pub returns-clause-same : goal.returns-clause-same
returns-clause-same c = goes_then c.args.self.now c.loop.self c.pass_ahead.new.self c.loop.invariant.same c.pass_ahead.ensures.same
