use Rattle.std.proofs.Common.{◌∙◌, arith, inl, inr, refl}
use Rattle.std.proofs.lemmas.Bool.{both_ways}
use Rattle.std.proofs.lemmas.Option.{slice_get_within}
use Rattle.rbac_matrix.specs.Shown.{line_of}
use Rattle.rbac_matrix.proofs.BlockLemmas.{least_past, least_seat, others_of}
use Rattle.rbac_matrix.proofs.HitLemmas.{from_itself}
use Rattle.rbac_matrix.proofs.SeatLemmas.{Costs-none, Costs-then}
use Rattle.rbac_matrix.proofs.LineLemmas.{all_past, are_real, ends_from, ends_line, finds_row, least_about, least_onward, least_within, passes_unfit, unfit_onward}
use Rattle.rbac_matrix.proofs.steps.next_in_line.Goals as goal

pub loop-place-init : goal.loop-place-init
loop-place-init c = record {
  seated = c.requires.seated;
  blocks = c.requires.blocks;
  runs = refl;
  moved = inl (refl, refl);
  onward = from_itself c.args.from c.args.upto;
  before = λ q k h f. f;
  costs = Costs-none c.args.seats.now c.args.meter.now;
}

pub advance-requires-clause-seated : goal.advance-requires-clause-seated
advance-requires-clause-seated c =
    let cursor = (least_seat c.args.basis.index.now (line_of c.args.line) c.loop-place.kept.runs c.loop-place.seats c.loop-place.kept.blocks.kept.items c.loop-place.invariant.blocks (others_of c.args.basis.index.now (line_of c.args.line) c.args.basis.reaches.now c.loop-place.from c.loop-place.upto c.loop-place.seats c.loop-place.invariant.seated) c.loop-place.invariant.seated.count c.in-Some.place c.in-Some.no c.in-Some.ensures).cursor in
    least_about c.args.basis.index.now c.args.basis.universe.now c.args.basis.reaches.now (line_of c.args.line) c.requires.policy c.requires.universe c.requires.reaches c.loop-place.from c.loop-place.upto c.loop-place.seats c.loop-place.invariant.seated c.in-Some.place c.in-Some.no (least_seat c.args.basis.index.now (line_of c.args.line) c.loop-place.kept.runs c.loop-place.seats c.loop-place.kept.blocks.kept.items c.loop-place.invariant.blocks (others_of c.args.basis.index.now (line_of c.args.line) c.args.basis.reaches.now c.loop-place.from c.loop-place.upto c.loop-place.seats c.loop-place.invariant.seated) c.loop-place.invariant.seated.count c.in-Some.place c.in-Some.no c.in-Some.ensures) c.len-all.result (rw c.len-all.ensures (slice_get_within c.args.basis.index.now.grants c.in-Some.no cursor.grant cursor.at))

pub advance-requires-clause-real : goal.advance-requires-clause-real
advance-requires-clause-real c = are_real c.args.basis.index.now c.args.basis.universe.now c.args.basis.reaches.now (line_of c.args.line) c.requires.policy c.requires.universe c.requires.reaches c.requires.limits.targets

pub namespaced-requires : goal.namespaced-requires
namespaced-requires c = least_within c.args.basis.index.now c.args.basis.universe.now c.args.basis.reaches.now (line_of c.args.line) c.requires.policy c.requires.universe c.requires.reaches c.loop-place.from c.loop-place.upto c.loop-place.seats c.loop-place.invariant.seated c.in-Some.place c.in-Some.no (least_seat c.args.basis.index.now (line_of c.args.line) c.loop-place.kept.runs c.loop-place.seats c.loop-place.kept.blocks.kept.items c.loop-place.invariant.blocks (others_of c.args.basis.index.now (line_of c.args.line) c.args.basis.reaches.now c.loop-place.from c.loop-place.upto c.loop-place.seats c.loop-place.invariant.seated) c.loop-place.invariant.seated.count c.in-Some.place c.in-Some.no c.in-Some.ensures)

pub returns-then-fits-clause-row : goal.returns-then-fits-clause-row
returns-then-fits-clause-row c = finds_row c.args.basis.index.now c.args.basis.universe.now c.args.basis.reaches.now (line_of c.args.line) c.requires.policy c.requires.universe c.requires.reaches c.loop-place.from c.loop-place.upto c.loop-place.seats c.loop-place.invariant.seated c.in-Some.place c.in-Some.no (least_seat c.args.basis.index.now (line_of c.args.line) c.loop-place.kept.runs c.loop-place.seats c.loop-place.kept.blocks.kept.items c.loop-place.invariant.blocks (others_of c.args.basis.index.now (line_of c.args.line) c.args.basis.reaches.now c.loop-place.from c.loop-place.upto c.loop-place.seats c.loop-place.invariant.seated) c.loop-place.invariant.seated.count c.in-Some.place c.in-Some.no c.in-Some.ensures) c.args.from c.args.upto c.loop-place.invariant.onward c.loop-place.invariant.before c.namespaced.result c.namespaced.ensures c.loop-place.invariant.moved (c.fits.ensures.0 c.if-fits.true)

pub loop-place-smaller : goal.loop-place-smaller
loop-place-smaller c =
    let low = least_onward c.args.basis.index.now c.args.basis.universe.now c.args.basis.reaches.now (line_of c.args.line) c.requires.policy c.requires.universe c.requires.reaches c.loop-place.from c.loop-place.upto c.loop-place.seats c.loop-place.invariant.seated c.in-Some.place c.in-Some.no (least_seat c.args.basis.index.now (line_of c.args.line) c.loop-place.kept.runs c.loop-place.seats c.loop-place.kept.blocks.kept.items c.loop-place.invariant.blocks (others_of c.args.basis.index.now (line_of c.args.line) c.args.basis.reaches.now c.loop-place.from c.loop-place.upto c.loop-place.seats c.loop-place.invariant.seated) c.loop-place.invariant.seated.count c.in-Some.place c.in-Some.no c.in-Some.ensures) in
    let high = least_within c.args.basis.index.now c.args.basis.universe.now c.args.basis.reaches.now (line_of c.args.line) c.requires.policy c.requires.universe c.requires.reaches c.loop-place.from c.loop-place.upto c.loop-place.seats c.loop-place.invariant.seated c.in-Some.place c.in-Some.no (least_seat c.args.basis.index.now (line_of c.args.line) c.loop-place.kept.runs c.loop-place.seats c.loop-place.kept.blocks.kept.items c.loop-place.invariant.blocks (others_of c.args.basis.index.now (line_of c.args.line) c.args.basis.reaches.now c.loop-place.from c.loop-place.upto c.loop-place.seats c.loop-place.invariant.seated) c.loop-place.invariant.seated.count c.in-Some.place c.in-Some.no c.in-Some.ensures) in
    omega arith

pub loop-place-preserved : goal.loop-place-preserved
loop-place-preserved c = record {
  seated = all_past c.args.basis.index.now (line_of c.args.line) c.args.basis.reaches.now c.in-Some.place c.len-all.result c.advance.new.seats c.len-all.ensures c.advance.ensures.seated;
  blocks = c.advance.ensures.blocks;
  runs = c.advance.ensures.runs ∙ c.loop-place.invariant.runs;
  moved = inr refl;
  onward = unfit_onward c.args.basis.index.now c.args.basis.universe.now c.args.basis.reaches.now (line_of c.args.line) c.requires.policy c.requires.universe c.requires.reaches c.loop-place.from c.loop-place.upto c.loop-place.seats c.loop-place.invariant.seated c.in-Some.place c.in-Some.no (least_seat c.args.basis.index.now (line_of c.args.line) c.loop-place.kept.runs c.loop-place.seats c.loop-place.kept.blocks.kept.items c.loop-place.invariant.blocks (others_of c.args.basis.index.now (line_of c.args.line) c.args.basis.reaches.now c.loop-place.from c.loop-place.upto c.loop-place.seats c.loop-place.invariant.seated) c.loop-place.invariant.seated.count c.in-Some.place c.in-Some.no c.in-Some.ensures) c.args.from c.args.upto c.loop-place.invariant.onward c.loop-place.invariant.before c.namespaced.result c.namespaced.ensures;
  before = passes_unfit c.args.basis.index.now c.args.basis.universe.now c.args.basis.reaches.now (line_of c.args.line) c.requires.policy c.requires.universe c.requires.reaches c.loop-place.from c.loop-place.upto c.loop-place.seats c.loop-place.invariant.seated c.in-Some.place c.in-Some.no (least_seat c.args.basis.index.now (line_of c.args.line) c.loop-place.kept.runs c.loop-place.seats c.loop-place.kept.blocks.kept.items c.loop-place.invariant.blocks (others_of c.args.basis.index.now (line_of c.args.line) c.args.basis.reaches.now c.loop-place.from c.loop-place.upto c.loop-place.seats c.loop-place.invariant.seated) c.loop-place.invariant.seated.count c.in-Some.place c.in-Some.no c.in-Some.ensures) c.args.from c.args.upto c.loop-place.invariant.onward c.loop-place.invariant.before c.namespaced.result c.namespaced.ensures (λ x. both_ways _ c.if-fits.false (c.fits.ensures.1 x));
  costs = Costs-then c.args.seats.now c.loop-place.seats c.advance.new.seats 0 0 0 0 c.args.meter.now c.loop-place.meter c.advance.new.meter c.loop-place.invariant.costs c.advance.ensures.costs;
}

pub returns-clause-row : goal.returns-clause-row
returns-clause-row c =
    ends_from c.args.basis.index.now c.args.basis.universe.now c.args.basis.reaches.now (line_of c.args.line) c.args.from c.args.upto c.loop-place.from c.loop-place.upto c.loop-place.seats c.loop-place.invariant.before
    (ends_line c.args.basis.index.now c.args.basis.universe.now c.args.basis.reaches.now (line_of c.args.line) c.requires.policy c.requires.universe c.requires.reaches c.loop-place.from c.loop-place.upto c.loop-place.seats c.loop-place.invariant.seated c.requires.limits.targets (least_past c.args.basis.index.now (line_of c.args.line) c.loop-place.kept.runs c.loop-place.seats c.loop-place.kept.blocks.kept.items c.loop-place.invariant.blocks (others_of c.args.basis.index.now (line_of c.args.line) c.args.basis.reaches.now c.loop-place.from c.loop-place.upto c.loop-place.seats c.loop-place.invariant.seated) c.loop-place.invariant.seated.count c.in_default.ensures))
