use Rattle.std.proofs.Common.{◌≡◌, ◌⊎◌, ◌<◌, arith, inl, inr, length}
use Rattle.rbac_matrix.specs.Shown.{line_of}
use Rattle.rbac_matrix.specs.Cursors.{IsAhead}
use Rattle.rbac_matrix.specs.Seats.{empty_seat}
use Rattle.rbac_matrix.proofs.SeatLemmas.{set_each}
use Rattle.rbac_matrix.proofs.WalkLemmas.{comes_on, none_ahead}
use Rattle.rbac_matrix.proofs.seats.empty_line.Goals as goal

pub loop-no-init : goal.loop-no-init
loop-no-init c = record {
  emptied = λ k lt. elim (c.requires.others k lt) [ inl cursor ↦ inl (c.whole_walk-walk.ensures.ahead c.args.index.now (line_of c.args.line) k cursor) | inr e ↦ inr e ];
  within = c.whole_walk-walk.ensures.within c.args.index.now (line_of c.args.line) c.args.runs.now c.requires.runs;
}

pub loop-no-preserved : goal.loop-no-preserved
loop-no-preserved c =
    let p = c.args.index.now in
    let l = line_of c.args.line in
    let here : c.in-Some.no < length c.loop-no.seats = omega (arith, c.in-Some.ensures.number, c.requires.count, c.loop-no.auto.seats) in
    record {
      emptied = set_each c.loop-no.seats c.in-Some.no c.new.result here (λ k s. IsAhead p l c.next_below.new.walk k ⊎ (s ≡ empty_seat))
          (λ k lt other. elim (c.loop-no.invariant.emptied k lt) [
            | inl ahead ↦ elim (comes_on p l c.loop-no.walk c.next_below.new.walk c.in-Some.no c.in-Some.ensures.found.0 k ahead) [ inl e ↦ absurd (other e) | inr on ↦ inl on ]
            | inr e ↦ inr e
          ])
          (inr c.new.ensures);
      within = c.in-Some.ensures.within;
    }

pub returns : goal.returns
returns c =
    let p = c.args.index.now in
    let l = line_of c.args.line in
    let none = none_ahead p l c.loop-no.walk (λ k low high. c.in_default.ensures.found k low (omega (arith, high, c.len-end.ensures))) in
    record {
      count = omega (arith, c.requires.count, c.loop-no.auto.seats);
      each = λ k lt. elim (c.loop-no.invariant.emptied k lt) [ inl ahead ↦ absurd (none k ahead) | inr e ↦ e ];
    }
