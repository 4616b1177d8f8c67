use Rattle.std.proofs.Common.{◌≡◌, ◌+◌, ◌-◌, ◌≤◌, ◌<◌, ap, arith, subst, ℕ, List, sym, refl, length, length-set, inl, inr}
use Rattle.std.proofs.lemmas.Bool.{both_ways, cases_lt}
use Rattle.rbac_matrix.specs.Seats.{past_all, seat_at}
use Rattle.rbac_matrix.specs.Shown.{line_of}
use Rattle.rbac_matrix.specs.Blocks.{AreBlocksBelow}
use Rattle.rbac_matrix.specs.Cursors.{IsBoundOn, IsWithin}
use Rattle.rbac_matrix.specs.declared.blocks.Block.{Block}
use Rattle.rbac_matrix.specs.declared.walk.Walk.{Walk}
use Rattle.rbac_matrix.proofs.BlockLemmas.{back_within, blocks_join, blocks_none, blocks_over, blocks_push, unbound_idle}
use Rattle.rbac_matrix.proofs.WalkLemmas.{cursor_bound}
use Rattle.rbac_matrix.proofs.blocks.Blocks.fill.Goals as goal

pub loop-no-init : goal.loop-no-init
loop-no-init c = record {
  blocks = rw c.clear.ensures (blocks_none c.args.index.now (line_of c.args.line) c.args.runs.now c.args.seats.now c.whole_walk-walk.result.next c.whole_walk-walk.ensures.first);
  within = c.whole_walk-walk.ensures.within c.args.index.now (line_of c.args.line) c.args.runs.now c.requires.runs;
  few = omega (arith, c.whole_walk-walk.ensures.first);
  some = λ lt. absurd (omega arith);
}

pub loop-no-preserved-then-begins_block : goal.loop-no-preserved-then-begins_block
loop-no-preserved-then-begins_block c =
    let step = c.in-Some.ensures.found.0 in
    let idle = unbound_idle c.args.index.now (line_of c.args.line) c.args.seats.now c.loop-no.walk.next c.in-Some.no c.requires.others (omega (arith, c.in-Some.ensures.number, c.requires.count)) step.first in
    let over = blocks_over c.args.index.now (line_of c.args.line) c.args.runs.now c.args.seats.now c.loop-no.walk.next c.loop-no.self.kept.items c.loop-no.invariant.blocks c.in-Some.no step.on idle in
    let bound : IsBoundOn c.args.index.now (line_of c.args.line) c.in-Some.no = elim (c.requires.others c.in-Some.no (omega (arith, c.in-Some.ensures.number, c.requires.count))) [
      | inl cursor ↦ cursor_bound c.args.index.now (line_of c.args.line) c.in-Some.no cursor
      | inr e ↦ let empty : (seat_at c.args.seats.now c.in-Some.no).place ≡ past_all = rw e refl in absurd (omega (arith, empty, c.place-place.ensures, c.if-place.false))
    ] in
    let back = subst (λ (w : Walk). IsWithin c.args.index.now (line_of c.args.line) c.args.runs.now w) (sym c.back_at.ensures) (back_within c.args.index.now (line_of c.args.line) c.args.runs.now c.loop-no.walk c.next_below.new.walk c.in-Some.no (step, bound) c.in-Some.ensures.within) in
    let b : Block = record { walk = c.back_at.result; end = c.next_below.new.walk.next; place = c.place-place.result; number = c.in-Some.no } in
    let more = blocks_push c.args.index.now (line_of c.args.line) c.args.runs.now c.args.seats.now c.in-Some.no c.loop-no.self.kept.items over b (ap (λ (w : Walk). w.next) c.back_at.ensures) step.passed c.place-place.ensures refl (omega (arith, c.place-place.type_inv, c.if-place.false)) back in
    record {
      blocks = subst (λ (n : ℕ). AreBlocksBelow c.args.index.now (line_of c.args.line) c.args.runs.now c.args.seats.now n c.push.new.self.items) (sym step.passed)
          (subst (λ (bs : List Block). AreBlocksBelow c.args.index.now (line_of c.args.line) c.args.runs.now c.args.seats.now (c.in-Some.no + 1) bs) (sym c.push.ensures.items) more);
      within = c.in-Some.ensures.within;
      few = omega (arith, step.passed, c.in-Some.ensures.number, c.requires.count);
      some = λ lt. omega (arith, c.push.ensures.len);
    }

pub loop-no-preserved : goal.loop-no-preserved
loop-no-preserved c =
    let step = c.in-Some.ensures.found.0 in
    let idle = unbound_idle c.args.index.now (line_of c.args.line) c.args.seats.now c.loop-no.walk.next c.in-Some.no c.requires.others (omega (arith, c.in-Some.ensures.number, c.requires.count)) step.first in
    let over = blocks_over c.args.index.now (line_of c.args.line) c.args.runs.now c.args.seats.now c.loop-no.walk.next c.loop-no.self.kept.items c.loop-no.invariant.blocks c.in-Some.no step.on idle in
    let some : 0 < length c.loop-no.self.kept.items = elim (c.begins_block.ensures.joins (λ t. both_ways _ c.if-begins_block.false t)) [
      | inl room ↦ c.loop-no.invariant.some room
      | inr full ↦ omega arith
    ] in
    record {
      blocks = rw (c.put.ensures, c.with-block.ensures, c.get.ensures, step.passed) (blocks_join c.args.index.now (line_of c.args.line) c.args.runs.now c.args.seats.now c.in-Some.no c.loop-no.self.kept.items over (c.len-last.result - 1) (omega (arith, c.len-last.ensures)) c.place-place.result c.place-place.ensures (omega (arith, c.place-place.type_inv, c.if-place.false)));
      within = c.in-Some.ensures.within;
      few = omega (arith, step.passed, c.in-Some.ensures.number, c.requires.count);
      some = λ lt. rw c.put.ensures (omega (arith, length-set c.loop-no.self.kept.items (c.len-last.result - 1) c.with-block.result));
    }

pub loop-no-preserved-then-place : goal.loop-no-preserved-then-place
loop-no-preserved-then-place c =
    let step = c.in-Some.ensures.found.0 in
    let idle = unbound_idle c.args.index.now (line_of c.args.line) c.args.seats.now c.loop-no.walk.next c.in-Some.no c.requires.others (omega (arith, c.in-Some.ensures.number, c.requires.count)) step.first in
    record {
      blocks = blocks_over c.args.index.now (line_of c.args.line) c.args.runs.now c.args.seats.now c.loop-no.walk.next c.loop-no.self.kept.items c.loop-no.invariant.blocks c.next_below.new.walk.next (omega (arith, step.on, step.passed))
          (λ k low high. elim (cases_lt k c.in-Some.no) [
            | inl lt ↦ idle k low lt
            | inr ge ↦
                let e : k ≡ c.in-Some.no = omega (arith, step.passed) in
                subst (λ (i : ℕ). past_all ≤ (seat_at c.args.seats.now i).place) (sym e) (omega (arith, c.place-place.ensures, c.if-place.true))
          ]);
      within = c.in-Some.ensures.within;
      few = omega (arith, step.passed, c.in-Some.ensures.number, c.requires.count);
      some = c.loop-no.invariant.some;
    }

pub returns : goal.returns
returns c =
    blocks_over c.args.index.now (line_of c.args.line) c.args.runs.now c.args.seats.now c.loop-no.walk.next c.loop-no.self.kept.items c.loop-no.invariant.blocks (length c.args.seats.now) c.loop-no.invariant.few
    (unbound_idle c.args.index.now (line_of c.args.line) c.args.seats.now c.loop-no.walk.next (length c.args.seats.now) c.requires.others (omega arith) (λ k low high. c.in_default.ensures.found k low (omega (arith, c.len-end.ensures, c.requires.count, high))))
