use Rattle.std.proofs.Common.{◌≡◌, ◌<◌, ◌∙◌, arith, length, [], get_or-set_other, inl, inr}
use Rattle.std.proofs.lemmas.Bool.{both_ways}
use Rattle.std.proofs.lemmas.List.{get_or_default}
use Rattle.rbac_matrix.specs.Shown.{line_of}
use Rattle.rbac_matrix.specs.Seats.{no_seat, reach_at}
use Rattle.rbac_matrix.proofs.BlockLemmas.{advances_then, move_about, move_advances, passed_end, passed_move, passed_stay}
use Rattle.rbac_matrix.proofs.advance.advance_in.Goals as goal

pub loop-no-preserved-then-stands_below : goal.loop-no-preserved-then-stands_below
loop-no-preserved-then-stands_below c =
    let step = c.in-Some.ensures.found.0 in
    let within : c.in-Some.no < length c.loop-no.seats = omega (arith, c.in-Some.ensures.number, c.loop-no.invariant.seated.count) in
    let lt : c.in-Some.no < length c.args.basis.reaches.now = omega (arith, c.requires.reaches, c.in-Some.ensures.number) in
    let is : c.index-reaches-at.result ≡ reach_at c.args.basis.reaches.now c.in-Some.no = c.index-reaches-at.is ∙ get_or_default c.args.basis.reaches.now c.in-Some.no c.index-reaches-at.result [] lt in
    let stands = c.stands_below.ensures.0 c.if-stands_below.true in
    record {
      seated = move_about c.args.basis.index.now (line_of c.args.line) c.args.basis.reaches.now c.args.place c.args.end c.loop-no.seats c.loop-no.invariant.seated c.in-Some.no within stands.0 stands.1 c.requires.stands c.index-reaches-at.result is c.seat_after.result c.seat_after.ensures.seated;
      advances = advances_then c.args.basis.index.now (line_of c.args.line) c.args.basis.reaches.now c.args.place c.args.end c.args.seats.now c.loop-no.seats _ c.args.meter.now c.loop-no.meter c.seat_after.new.meter c.loop-no.invariant.advances
          (move_advances c.args.basis.index.now (line_of c.args.line) c.args.basis.reaches.now c.args.place c.args.end c.loop-no.seats c.loop-no.invariant.seated c.in-Some.no within stands.0 stands.1 c.requires.stands c.index-reaches-at.result is c.seat_after.result c.seat_after.ensures.seated c.loop-no.meter c.seat_after.new.meter c.seat_after.ensures.costs);
      passed = rw step.passed (passed_move c.args.basis.index.now (line_of c.args.line) c.args.basis.reaches.now c.args.place c.args.end c.loop-no.seats c.loop-no.invariant.seated c.args.block.walk.next c.loop-no.walk.next c.in-Some.no c.loop-no.invariant.passed c.requires.stands within step.first c.seat_after.result (let ahead = c.seat_after.ensures.seated.ahead in omega (arith, stands.1)));
      others = λ k out. get_or-set_other c.loop-no.seats c.in-Some.no k c.seat_after.result no_seat (λ e. elim out [
        | inl low ↦ omega (arith, c.loop-no.invariant.on, step.on)
        | inr high ↦ omega (arith, c.in-Some.ensures.found.1)
      ]) ∙ c.loop-no.invariant.others k out;
      within = c.in-Some.ensures.within;
      on = omega (arith, step.passed, step.on, c.loop-no.invariant.on);
    }

pub loop-no-preserved : goal.loop-no-preserved
loop-no-preserved c =
    let step = c.in-Some.ensures.found.0 in
    let within : c.in-Some.no < length c.loop-no.seats = omega (arith, c.in-Some.ensures.number, c.loop-no.invariant.seated.count) in
    record {
      seated = c.loop-no.invariant.seated;
      advances = c.loop-no.invariant.advances;
      passed = rw step.passed (passed_stay c.args.basis.index.now (line_of c.args.line) c.args.basis.reaches.now c.args.place c.args.end c.loop-no.seats c.loop-no.invariant.seated c.args.block.walk.next c.loop-no.walk.next c.in-Some.no c.loop-no.invariant.passed c.requires.stands within step.first (λ x. both_ways _ c.if-stands_below.false (c.stands_below.ensures.1 x)));
      others = c.loop-no.invariant.others;
      within = c.in-Some.ensures.within;
      on = omega (arith, step.passed, step.on, c.loop-no.invariant.on);
    }

pub returns-clause-passed : goal.returns-clause-passed
returns-clause-passed c = passed_end c.args.basis.index.now (line_of c.args.line) c.args.basis.reaches.now c.args.place c.args.end c.loop-no.seats c.loop-no.invariant.seated c.args.block c.loop-no.walk.next c.loop-no.invariant.passed c.requires.stands (omega (arith, c.requires.few, c.requires.seated.count, c.loop-no.invariant.seated.count)) c.in_default.ensures.found
