use Rattle.std.proofs.Common.{◌≡◌, ◌∙◌, ◌<◌, ◌≤◌, ap, arith, length, length-set, subst, sym, inl, inr}
use Rattle.rbac_matrix.specs.Shown.{line_of}
use Rattle.rbac_matrix.proofs.advance.advance_to.Goals as goal
use Rattle.std.proofs.lemmas.Bool.{both_ways, cases_lt}
use Rattle.rbac_matrix.specs.Blocks.{IsBlock, IsOfBlock, block_at}
use Rattle.rbac_matrix.specs.declared.blocks.Block.{Block}
use Rattle.rbac_matrix.proofs.BlockLemmas.{before_ended, block_ahead, put_blocks, put_next}
use Rattle.rbac_matrix.proofs.SeatLemmas.{Costs-then}

pub loop-at-preserved-then-not-stands_before : goal.loop-at-preserved-then-not-stands_before
loop-at-preserved-then-not-stands_before c =
    let lt : c.loop-at.at < length c.loop-at.kept.blocks.kept.items = omega (arith, c.loop-at-test.true, c.len-at-end.ensures, c.loop-at.invariant.count) in
    let own = subst (λ (b : Block). IsBlock c.loop-at.seats b) (sym c.get-block.ensures) (c.loop-at.invariant.blocks.each c.loop-at.at lt) in
    record {
      seated = c.loop-at.invariant.seated;
      costs = c.loop-at.invariant.costs;
      blocks = c.loop-at.invariant.blocks;
      runs = c.loop-at.invariant.runs;
      count = c.loop-at.invariant.count;
      passed = λ i low k of. elim (cases_lt i c.loop-at.at) [
        | inl early ↦ c.loop-at.invariant.passed i early k of
        | inr ge ↦
            let e : i ≡ c.loop-at.at = omega arith in
            block_ahead c.args.basis.index.now (line_of c.args.line) c.args.basis.reaches.now c.args.place c.loop-at.seats c.loop-at.invariant.seated c.get-block.result own
            (λ before. both_ways _ c.if-not-stands_before.true (c.stands_before.ensures.1 before))
            k (subst (λ (b : Block). IsOfBlock b k) (ap (block_at c.loop-at.kept.blocks.kept.items) e ∙ sym c.get-block.ensures) of)
      ];
    }

pub loop-at-preserved : goal.loop-at-preserved
loop-at-preserved c =
    let lt : c.loop-at.at < length c.loop-at.kept.blocks.kept.items = omega (arith, c.loop-at-test.true, c.len-at-end.ensures, c.loop-at.invariant.count) in
    let len : length c.advance_in_to.new.seats ≡ length c.loop-at.seats = c.advance_in_to.ensures.seated.count ∙ sym c.loop-at.invariant.seated.count in
    let walk = c.renewed-renewed.ensures.same.0 ∙ ap (λ (b : Block). b.walk) c.get-block.ensures in
    let end = c.renewed-renewed.ensures.same.1 ∙ ap (λ (b : Block). b.end) c.get-block.ensures in
    let others = rw c.get-block.ensures at c.advance_in_to.ensures.others in
    record {
      seated = c.advance_in_to.ensures.seated;
      costs = Costs-then c.args.seats.now c.loop-at.seats c.advance_in_to.new.seats 0 0 0 0 c.args.meter.now c.loop-at.meter c.advance_in_to.new.meter c.loop-at.invariant.costs c.advance_in_to.ensures.costs;
      blocks = rw c.put.ensures (put_blocks c.args.basis.index.now (line_of c.args.line) c.loop-at.kept.runs c.loop-at.seats c.advance_in_to.new.seats c.loop-at.kept.blocks.kept.items c.loop-at.invariant.blocks c.loop-at.at lt c.renewed-renewed.result len walk end others c.renewed-renewed.ensures.block);
      runs = c.loop-at.invariant.runs;
      count = rw c.put.ensures (length-set c.loop-at.kept.blocks.kept.items c.loop-at.at c.renewed-renewed.result ∙ c.loop-at.invariant.count);
      passed = rw c.put.ensures (put_next c.args.basis.index.now (line_of c.args.line) c.loop-at.kept.runs c.loop-at.seats c.advance_in_to.new.seats c.loop-at.kept.blocks.kept.items c.loop-at.invariant.blocks c.loop-at.at lt c.renewed-renewed.result len walk end others (λ k s. c.args.place ≤ s.place) c.loop-at.invariant.passed (rw c.get-block.ensures at c.advance_in_to.ensures.passed));
    }

pub returns-clause-seated : goal.returns-clause-seated
returns-clause-seated c =
    before_ended c.args.basis.index.now (line_of c.args.line) c.args.basis.reaches.now c.args.place c.loop-at.seats c.loop-at.invariant.seated c.loop-at.kept.runs c.loop-at.kept.blocks.kept.items c.loop-at.invariant.blocks (omega (arith, c.ranges.place.fits))
    (λ i lt. c.loop-at.invariant.passed i (omega (arith, lt, c.loop-at-test.false, c.len-at-end.ensures, c.loop-at.invariant.count)))
