use Rattle.std.proofs.Common.{◌≡◌, ◌<◌, ◌∙◌, arith, length, [], get_or-set_other, inl, inr}
use Rattle.std.proofs.lemmas.List.{get_or_default}
use Rattle.rbac_matrix.specs.Shown.{line_of}
use Rattle.rbac_matrix.specs.Seats.{no_seat, reach_at, seat_at}
use Rattle.rbac_matrix.proofs.BlockLemmas.{before_end, before_move, before_stay, move_before}
use Rattle.rbac_matrix.proofs.SeatLemmas.{Costs-set}
use Rattle.rbac_matrix.proofs.advance.advance_in_to.Goals as goal

pub loop-no-preserved-then-place : goal.loop-no-preserved-then-place
loop-no-preserved-then-place c =
    let p = c.args.basis.index.now in
    let l = line_of c.args.line in
    let rs = c.args.basis.reaches.now in
    let no = c.in-Some.no in
    let step = c.in-Some.ensures.found.0 in
    let within : no < length c.loop-no.seats = omega (arith, c.in-Some.ensures.number, c.loop-no.invariant.seated.count) in
    let lt : no < length rs = omega (arith, c.requires.reaches, c.in-Some.ensures.number) in
    let is : c.index-reaches-at.result ≡ reach_at rs no = c.index-reaches-at.is ∙ get_or_default rs no c.index-reaches-at.result [] lt in
    let low : (seat_at c.loop-no.seats no).place < c.args.place = omega (arith, c.place.ensures, c.if-place.true) in
    record {
      seated = move_before p l rs c.args.place c.loop-no.seats c.loop-no.invariant.seated no within low (omega (arith, c.ranges.place.fits)) c.index-reaches-at.result is c.seat_at_least.result c.seat_at_least.ensures.seated;
      costs = Costs-set c.loop-no.seats no c.seat_at_least.result within c.args.seats.now 0 0 0 0 c.args.meter.now c.loop-no.meter c.seat_at_least.new.meter c.loop-no.invariant.costs c.seat_at_least.ensures.costs;
      passed = rw step.passed (before_move p l rs c.args.place c.loop-no.seats c.loop-no.invariant.seated c.args.block.walk.next c.loop-no.walk.next no c.loop-no.invariant.passed (omega (arith, c.ranges.place.fits)) within step.first c.seat_at_least.result c.seat_at_least.ensures.seated.ahead);
      others = λ k out. get_or-set_other c.loop-no.seats no k c.seat_at_least.result no_seat (λ e. elim out [
        | inl low ↦ omega (arith, c.loop-no.invariant.on, step.on)
        | inr high ↦ omega (arith, c.in-Some.ensures.found.1)
      ]) ∙ c.loop-no.invariant.others k out;
      within = c.in-Some.ensures.within;
      on = omega (arith, step.passed, step.on, c.loop-no.invariant.on);
    }

pub loop-no-preserved : goal.loop-no-preserved
loop-no-preserved c =
    let step = c.in-Some.ensures.found.0 in
    let within : c.in-Some.no < length c.loop-no.seats = omega (arith, c.in-Some.ensures.number, c.loop-no.invariant.seated.count) in
    record {
      seated = c.loop-no.invariant.seated;
      costs = c.loop-no.invariant.costs;
      passed = rw step.passed (before_stay c.args.basis.index.now (line_of c.args.line) c.args.basis.reaches.now c.args.place c.loop-no.seats c.loop-no.invariant.seated c.args.block.walk.next c.loop-no.walk.next c.in-Some.no c.loop-no.invariant.passed (omega (arith, c.ranges.place.fits)) within step.first (omega (arith, c.place.ensures, c.if-place.false)));
      others = c.loop-no.invariant.others;
      within = c.in-Some.ensures.within;
      on = omega (arith, step.passed, step.on, c.loop-no.invariant.on);
    }

pub returns-clause-passed : goal.returns-clause-passed
returns-clause-passed c = before_end c.args.basis.index.now (line_of c.args.line) c.args.basis.reaches.now c.args.place c.loop-no.seats c.loop-no.invariant.seated c.args.block c.loop-no.walk.next c.loop-no.invariant.passed (omega (arith, c.ranges.place.fits)) (omega (arith, c.requires.few, c.requires.seated.count, c.loop-no.invariant.seated.count)) c.in_default.ensures.found
