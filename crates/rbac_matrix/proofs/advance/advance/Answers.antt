use Rattle.std.proofs.Common.{◌≡◌, ◌≢◌, ◌∙◌, ◌<◌, ap, arith, length, length-set, subst, sym, refl, inl, inr}
use Rattle.std.proofs.lemmas.Bool.{both_ways, cases_lt}
use Rattle.rbac_matrix.specs.Shown.{line_of}
use Rattle.rbac_matrix.specs.Blocks.{IsBlock, IsOfBlock, block_at}
use Rattle.rbac_matrix.specs.declared.blocks.Block.{Block}
use Rattle.rbac_matrix.proofs.BlockLemmas.{about_ended, about_gain, advances_costs, advances_none, advances_then, all_passed, block_stays, put_blocks, put_next}
use Rattle.rbac_matrix.proofs.advance.advance.Goals as goal

pub loop-at-init : goal.loop-at-init
loop-at-init c = record {
  seated = c.requires.seated;
  advances = advances_none c.args.basis.index.now (line_of c.args.line) c.args.basis.reaches.now c.args.place c.args.end c.args.seats.now c.args.meter.now;
  blocks = c.requires.blocks;
  runs = refl;
  count = refl;
  passed = λ i lt. absurd (omega arith);
}

pub loop-at-preserved-then-not-stands_below : goal.loop-at-preserved-then-not-stands_below
loop-at-preserved-then-not-stands_below c =
    let lt : c.loop-at.at < length c.loop-at.kept.blocks.kept.items = omega (arith, c.loop-at-test.true, c.len-at-end.ensures, c.loop-at.invariant.count) in
    let own = subst (λ (b : Block). IsBlock c.loop-at.seats b) (sym c.get-block.ensures) (c.loop-at.invariant.blocks.each c.loop-at.at lt) in
    let few = c.loop-at.invariant.blocks.below c.loop-at.at lt in
    record {
      seated = c.loop-at.invariant.seated;
      advances = c.loop-at.invariant.advances;
      blocks = c.loop-at.invariant.blocks;
      runs = c.loop-at.invariant.runs;
      count = c.loop-at.invariant.count;
      passed = λ i low k of below. elim (cases_lt i c.loop-at.at) [
        | inl early ↦ c.loop-at.invariant.passed i early k of below
        | inr ge ↦
            let e : i ≡ c.loop-at.at = omega arith in
            block_stays c.args.basis.index.now (line_of c.args.line) c.args.basis.reaches.now c.args.place c.args.end c.loop-at.seats c.loop-at.invariant.seated c.get-block.result own (omega (arith, few, ap (λ (b : Block). b.end) c.get-block.ensures)) c.requires.stands
            (λ x. both_ways _ c.if-not-stands_below.true (c.stands_below.ensures.1 x))
            k (subst (λ (b : Block). IsOfBlock b k) (ap (block_at c.loop-at.kept.blocks.kept.items) e ∙ sym c.get-block.ensures) of) below
      ];
    }

pub advance_in-requires-clause-within : goal.advance_in-requires-clause-within
advance_in-requires-clause-within c = rw c.get-block.ensures (c.loop-at.invariant.blocks.walks c.loop-at.at (omega (arith, c.loop-at-test.true, c.len-at-end.ensures, c.loop-at.invariant.count)))

pub advance_in-requires-clause-few : goal.advance_in-requires-clause-few
advance_in-requires-clause-few c = rw c.get-block.ensures (c.loop-at.invariant.blocks.below c.loop-at.at (omega (arith, c.loop-at-test.true, c.len-at-end.ensures, c.loop-at.invariant.count)))

pub loop-at-preserved : goal.loop-at-preserved
loop-at-preserved c =
    let lt : c.loop-at.at < length c.loop-at.kept.blocks.kept.items = omega (arith, c.loop-at-test.true, c.len-at-end.ensures, c.loop-at.invariant.count) in
    let len : length c.advance_in.new.seats ≡ length c.loop-at.seats = c.advance_in.ensures.seated.count ∙ sym c.loop-at.invariant.seated.count in
    let walk = c.renewed-renewed.ensures.same.0 ∙ ap (λ (b : Block). b.walk) c.get-block.ensures in
    let end = c.renewed-renewed.ensures.same.1 ∙ ap (λ (b : Block). b.end) c.get-block.ensures in
    let others = rw c.get-block.ensures at c.advance_in.ensures.others in
    record {
      seated = c.advance_in.ensures.seated;
      advances = advances_then c.args.basis.index.now (line_of c.args.line) c.args.basis.reaches.now c.args.place c.args.end c.args.seats.now c.loop-at.seats c.advance_in.new.seats c.args.meter.now c.loop-at.meter c.advance_in.new.meter c.loop-at.invariant.advances c.advance_in.ensures.advances;
      blocks = rw c.put.ensures (put_blocks c.args.basis.index.now (line_of c.args.line) c.loop-at.kept.runs c.loop-at.seats c.advance_in.new.seats c.loop-at.kept.blocks.kept.items c.loop-at.invariant.blocks c.loop-at.at lt c.renewed-renewed.result len walk end others c.renewed-renewed.ensures.block);
      runs = c.loop-at.invariant.runs;
      count = rw c.put.ensures (length-set c.loop-at.kept.blocks.kept.items c.loop-at.at c.renewed-renewed.result ∙ c.loop-at.invariant.count);
      passed = rw c.put.ensures (put_next c.args.basis.index.now (line_of c.args.line) c.loop-at.kept.runs c.loop-at.seats c.advance_in.new.seats c.loop-at.kept.blocks.kept.items c.loop-at.invariant.blocks c.loop-at.at lt c.renewed-renewed.result len walk end others (λ k s. k < c.args.end → s.place ≢ c.args.place) c.loop-at.invariant.passed (rw c.get-block.ensures at c.advance_in.ensures.passed));
    }

pub returns-clause-seated : goal.returns-clause-seated
returns-clause-seated c =
    about_ended c.args.basis.index.now (line_of c.args.line) c.args.basis.reaches.now c.args.place c.args.end c.loop-at.seats c.loop-at.invariant.seated
    (all_passed c.args.basis.index.now (line_of c.args.line) c.args.basis.reaches.now c.args.place c.args.end c.loop-at.kept.runs c.loop-at.seats c.loop-at.kept.blocks.kept.items c.loop-at.invariant.blocks c.requires.stands
    (λ i lt. c.loop-at.invariant.passed i (omega (arith, lt, c.loop-at-test.false, c.len-at-end.ensures, c.loop-at.invariant.count))))

pub returns-clause-costs : goal.returns-clause-costs
returns-clause-costs c = advances_costs c.args.basis.index.now (line_of c.args.line) c.args.basis.reaches.now c.args.place c.args.end c.args.seats.now c.loop-at.seats c.args.meter.now c.loop-at.meter c.loop-at.invariant.advances

pub returns-clause-gains : goal.returns-clause-gains
returns-clause-gains c =
    about_gain c.args.basis.index.now (line_of c.args.line) c.args.basis.reaches.now c.args.place c.args.end c.loop-at.seats c.loop-at.invariant.seated
    (all_passed c.args.basis.index.now (line_of c.args.line) c.args.basis.reaches.now c.args.place c.args.end c.loop-at.kept.runs c.loop-at.seats c.loop-at.kept.blocks.kept.items c.loop-at.invariant.blocks c.requires.stands
    (λ i lt. c.loop-at.invariant.passed i (omega (arith, lt, c.loop-at-test.false, c.len-at-end.ensures, c.loop-at.invariant.count))))
    c.args.seats.now c.args.meter.now c.loop-at.meter c.loop-at.invariant.advances
