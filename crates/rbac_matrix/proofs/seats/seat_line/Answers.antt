use Rattle.std.proofs.Common.{◌≡◌, ◌<◌, ◌∙◌, sym, length, arith, [], ℕ, List, subst, get_or}
use Rattle.std.proofs.lemmas.Bool.{both_ways}
use Rattle.std.proofs.lemmas.List.{get_or_default}
use Rattle.rbac_matrix.specs.Shown.{line_of}
use Rattle.rbac_matrix.specs.Seats.{past_all, reach_at}
use Rattle.rbac_matrix.proofs.LoopLemmas.{cursor_within, taken_keep, taken_more, taken_start}
use Rattle.rbac_matrix.proofs.seats.seat_line.Goals as goal

pub loop-no-init : goal.loop-no-init
loop-no-init c = record { taken = taken_start c.args.basis.index.now (line_of c.args.line) c.args.basis.reaches.now c.args.from c.whole_walk-walk.result c.args.seats.now c.args.meter.now c.requires.empty (c.whole_walk-walk.ensures.ahead c.args.basis.index.now (line_of c.args.line)); within = c.whole_walk-walk.ensures.within c.args.basis.index.now (line_of c.args.line) c.args.runs.now c.requires.runs }

pub slice_copy_out-is_untaken : goal.slice_copy_out-is_untaken
slice_copy_out-is_untaken c = omega (arith, c.loop-no.invariant.taken.count, cursor_within c.args.basis.index.now (line_of c.args.line) c.in-Some.no c.in-Some.ensures.found.0)

pub bounds-seats-no : goal.bounds-seats-no
bounds-seats-no c = omega (arith, c.loop-no.invariant.taken.count, cursor_within c.args.basis.index.now (line_of c.args.line) c.in-Some.no c.in-Some.ensures.found.0)

pub seat_from-requires-clause-real : goal.seat_from-requires-clause-real
seat_from-requires-clause-real c =
    let lt : c.in-Some.no < length c.args.basis.reaches.now = omega (arith, c.requires.reaches, cursor_within c.args.basis.index.now (line_of c.args.line) c.in-Some.no c.in-Some.ensures.found.0) in
    let is : c.index-reaches-no-then-is_untaken.result ≡ reach_at c.args.basis.reaches.now c.in-Some.no = c.index-reaches-no-then-is_untaken.is ∙ get_or_default c.args.basis.reaches.now c.in-Some.no c.index-reaches-no-then-is_untaken.result [] lt in
    subst (λ (r : List ℕ). (i : ℕ) → i < length r → get_or r i 0 < past_all) (sym is) (c.requires.real c.in-Some.no)

pub loop-no-preserved-then-is_untaken : goal.loop-no-preserved-then-is_untaken
loop-no-preserved-then-is_untaken c =
    let lt : c.in-Some.no < length c.args.basis.reaches.now = omega (arith, c.requires.reaches, cursor_within c.args.basis.index.now (line_of c.args.line) c.in-Some.no c.in-Some.ensures.found.0) in
    let is : c.index-reaches-no-then-is_untaken.result ≡ reach_at c.args.basis.reaches.now c.in-Some.no = c.index-reaches-no-then-is_untaken.is ∙ get_or_default c.args.basis.reaches.now c.in-Some.no c.index-reaches-no-then-is_untaken.result [] lt in
    let was : c.index-reaches-no.result ≡ reach_at c.args.basis.reaches.now c.in-Some.no = c.index-reaches-no.is ∙ get_or_default c.args.basis.reaches.now c.in-Some.no c.index-reaches-no.result [] lt in
    let untaken = c.is_untaken.ensures.0 c.if-is_untaken.true in
    record {
      taken = taken_more c.args.basis.index.now (line_of c.args.line) c.args.basis.reaches.now c.args.from c.loop-no.walk c.next_cursor.new.walk c.loop-no.filled c.args.seats.now c.loop-no.seats c.args.meter.now c.loop-no.meter c.loop-no.invariant.taken
          c.in-Some.no c.in-Some.ensures.found.0 c.in-Some.ensures.found.1 c.index-reaches-no-then-is_untaken.result c.seat_from.result c.seat_from.new.meter is (untaken.0, subst (λ (r : List ℕ). 0 < length r) (was ∙ sym is) untaken.1)
          (subst (λ (r : List ℕ). (i : ℕ) → i < length r → get_or r i 0 < past_all) (sym is) (c.requires.real c.in-Some.no)) c.seat_from.ensures.seated c.seat_from.ensures.started c.seat_from.ensures.sought;
      within = c.in-Some.ensures.within;
    }

pub loop-no-preserved : goal.loop-no-preserved
loop-no-preserved c =
    let lt : c.in-Some.no < length c.args.basis.reaches.now = omega (arith, c.requires.reaches, cursor_within c.args.basis.index.now (line_of c.args.line) c.in-Some.no c.in-Some.ensures.found.0) in
    let is : c.index-reaches-no.result ≡ reach_at c.args.basis.reaches.now c.in-Some.no = c.index-reaches-no.is ∙ get_or_default c.args.basis.reaches.now c.in-Some.no c.index-reaches-no.result [] lt in
    record {
      taken = taken_keep c.args.basis.index.now (line_of c.args.line) c.args.basis.reaches.now c.args.from c.loop-no.walk c.next_cursor.new.walk c.loop-no.filled c.args.seats.now c.loop-no.seats c.args.meter.now c.loop-no.meter c.loop-no.invariant.taken
          c.in-Some.no c.in-Some.ensures.found.0 c.in-Some.ensures.found.1 c.index-reaches-no.result is c.requires.from (λ x. both_ways _ c.if-is_untaken.false (c.is_untaken.ensures.1 x));
      within = c.in-Some.ensures.within;
    }
