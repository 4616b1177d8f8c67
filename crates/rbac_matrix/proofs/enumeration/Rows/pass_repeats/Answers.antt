use Rattle.std.proofs.Common.{◌∙◌, arith, refl}
use Rattle.rbac_matrix.specs.Enumeration.{AreLeft}
use Rattle.rbac_matrix.proofs.OnceLemmas.{goes_none, goes_then, passes_repeats, some_none, some_then}
use Rattle.rbac_matrix.proofs.enumeration.Rows.pass_repeats.Goals as goal

pub loop-self-init : goal.loop-self-init
loop-self-init c = record {
  going = c.pass_rest.ensures.going;
  some = some_none (AreLeft c.pass_rest.new.self);
  few = omega arith;
  returned = refl;
  same = goes_none c.pass_rest.new.self;
}

pub loop-self-preserved : goal.loop-self-preserved
loop-self-preserved c =
    let s = c.pass_rest.new.self in
    let one = c.pass_repeat.new.self in
    let on = c.pass_rest-in-loop-self.new.self in
    record {
      going = c.pass_rest-in-loop-self.ensures.going;
      some = some_then (AreLeft s) (AreLeft one) (AreLeft on) (some_then (AreLeft s) (AreLeft c.loop-self.self) (AreLeft one) c.loop-self.invariant.some c.pass_repeat.ensures.some) c.pass_rest-in-loop-self.ensures.some;
      few = omega (arith, c.loop-self.invariant.few, c.pass_repeat.ensures.few, c.pass_rest-in-loop-self.ensures.few);
      returned = c.pass_rest-in-loop-self.ensures.returned ∙ c.pass_repeat.ensures.returned ∙ c.loop-self.invariant.returned;
      same = goes_then s one on (goes_then s c.loop-self.self one c.loop-self.invariant.same c.pass_repeat.ensures.same) c.pass_rest-in-loop-self.ensures.same;
    }

pub returns-clause-passes : goal.returns-clause-passes
returns-clause-passes c =
    let s = c.args.self.now in
    let first = c.pass_rest.new.self in
    let last = c.pass_repeat.new.self in
    let some = some_then (AreLeft first) (AreLeft c.loop-self.self) (AreLeft last) c.loop-self.invariant.some c.pass_repeat.ensures.some in
    passes_repeats (AreLeft s) (AreLeft last) (some_then (AreLeft s) (AreLeft first) (AreLeft last) c.pass_rest.ensures.some some) (c.pass_repeat.ensures.first c.loop-self-test.false)
