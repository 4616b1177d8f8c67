use Rattle.std.proofs.Common.{arith, subst, ℕ, sym}
use Rattle.rbac_matrix.specs.Shown.{line_of}
use Rattle.rbac_matrix.specs.Blocks.{IsLeastIn}
use Rattle.rbac_matrix.proofs.BlockLemmas.{least_new, least_old, least_over, unbound_idle}
use Rattle.rbac_matrix.proofs.blocks.Block.renewed.Goals as goal

pub loop-no-preserved-then-here-place : goal.loop-no-preserved-then-here-place
loop-no-preserved-then-here-place c =
    let step = c.in-Some.ensures.found.0 in
    let idle = unbound_idle c.args.index.now (line_of c.args.line) c.args.seats.now c.loop-no.walk.next c.in-Some.no c.requires.others (omega (arith, c.in-Some.ensures.number, c.requires.count)) step.first in
    let over = least_over c.args.seats.now c.args.self.walk.next c.loop-no.walk.next c.loop-no.place c.loop-no.number c.loop-no.invariant.least c.in-Some.no step.on idle in
    let least = least_new c.args.seats.now c.args.self.walk.next c.in-Some.no c.loop-no.place c.loop-no.number over c.place-here.result (omega (arith, c.loop-no.invariant.on, step.on)) c.place-here.ensures (omega arith) c.if-here-place.true in
    record {
      least = subst (λ (n : ℕ). IsLeastIn c.args.seats.now c.args.self.walk.next n c.place-here.result c.in-Some.no) (sym step.passed) least;
      within = c.in-Some.ensures.within;
      upto = omega (arith, step.passed, c.in-Some.ensures.found.1);
      on = omega (arith, step.passed, step.on, c.loop-no.invariant.on);
    }

pub loop-no-preserved : goal.loop-no-preserved
loop-no-preserved c =
    let step = c.in-Some.ensures.found.0 in
    let idle = unbound_idle c.args.index.now (line_of c.args.line) c.args.seats.now c.loop-no.walk.next c.in-Some.no c.requires.others (omega (arith, c.in-Some.ensures.number, c.requires.count)) step.first in
    let over = least_over c.args.seats.now c.args.self.walk.next c.loop-no.walk.next c.loop-no.place c.loop-no.number c.loop-no.invariant.least c.in-Some.no step.on idle in
    let least = least_old c.args.seats.now c.args.self.walk.next c.in-Some.no c.loop-no.place c.loop-no.number over c.place-here.result c.place-here.ensures (omega (arith, c.if-here-place.false)) in
    record {
      least = subst (λ (n : ℕ). IsLeastIn c.args.seats.now c.args.self.walk.next n c.loop-no.place c.loop-no.number) (sym step.passed) least;
      within = c.in-Some.ensures.within;
      upto = omega (arith, step.passed, c.in-Some.ensures.found.1);
      on = omega (arith, step.passed, step.on, c.loop-no.invariant.on);
    }

pub returns-clause-block : goal.returns-clause-block
returns-clause-block c =
    least_over c.args.seats.now c.args.self.walk.next c.loop-no.walk.next c.loop-no.place c.loop-no.number c.loop-no.invariant.least c.args.self.end c.loop-no.invariant.upto
    (unbound_idle c.args.index.now (line_of c.args.line) c.args.seats.now c.loop-no.walk.next c.args.self.end c.requires.others c.requires.end c.in_default.ensures.found)
